use Rattle.bench.proofs.Lasting.{state_told}
use Rattle.bench.proofs.Likeness.{altered_not_led_to, asked_alike, one_told}
use Rattle.bench.proofs.benches.Bench.state.Goals as goal

pub returns-clause-told : goal.returns-clause-told
returns-clause-told g c = state_told g.D.Chart.meaning g.R.Chart.meaning c.args.self.now c.held.result c.held.ensures

pub returns-clause-one : goal.returns-clause-one
returns-clause-one g c = one_told g.D.Chart.meaning g.R.Chart.meaning c.args.self.now

pub returns-clause-altered : goal.returns-clause-altered
returns-clause-altered g c = altered_not_led_to g.D.Chart.meaning g.R.Chart.meaning c.args.self.now

pub returns-clause-alike : goal.returns-clause-alike
returns-clause-alike g c = asked_alike
