use Rattle.bench.proofs.Lasting.{put_law}
use Rattle.bench.proofs.benches.Bench.put.Goals as goal

pub returns-clause-law : goal.returns-clause-law
returns-clause-law g c =
    put_law g.D.Chart.meaning g.R.Chart.meaning c.args.self.now c.args.table.now _ c.fill.new.self c.fill.new.table c.fill.result
    c.fill.ensures.answer c.fill.ensures.bench
