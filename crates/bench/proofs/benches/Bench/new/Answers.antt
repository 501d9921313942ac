use Rattle.bench.proofs.Lasting.{new_law}
use Rattle.bench.proofs.benches.Bench.new.Goals as goal

pub returns-clause-law : goal.returns-clause-law
returns-clause-law g c =
    new_law g.D.Chart.meaning g.R.Chart.meaning c.args.duty c.args.rule c.args.room c.set_up.result c.set_up.ensures
