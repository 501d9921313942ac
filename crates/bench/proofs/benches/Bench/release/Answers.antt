use Rattle.bench.proofs.Lasting.{hands_out, release_law}
use Rattle.bench.proofs.benches.Bench.release.Goals as goal

pub returns-clause-law : goal.returns-clause-law
returns-clause-law g c =
    release_law g.D.Chart.meaning g.R.Chart.meaning c.args.self.now c.args.table.now c.hand_out.result c.hand_out.ensures.answer

pub returns-clause-hands : goal.returns-clause-hands
returns-clause-hands g c =
    hands_out g.D.Chart.meaning g.R.Chart.meaning c.args.self.now c.args.table.now c.hand_out.result c.hand_out.ensures.answer
