use Rattle.bench.proofs.Lasting.{inspect_law}
use Rattle.bench.proofs.benches.Bench.inspect.Goals as goal

pub returns-clause-law : goal.returns-clause-law
returns-clause-law g c =
    inspect_law g.D.Chart.meaning g.R.Chart.meaning c.args.self.now c.args.table.now c.examine.new.self c.examine.result
    c.examine.ensures.answer c.examine.ensures.bench
