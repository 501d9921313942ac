use Rattle.bench.proofs.Lasting.{law_clear}
use Rattle.bench.proofs.benches.Bench.clear.Goals as goal

pub returns-clause-law : goal.returns-clause-law
returns-clause-law g c = law_clear g.D.Chart.meaning g.R.Chart.meaning _ _ c.forget.ensures.bench c.forget.ensures.state
