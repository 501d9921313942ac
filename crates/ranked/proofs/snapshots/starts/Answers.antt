use Rattle.std.proofs.Common.{arith, rules}
use Rattle.numbers.proofs.Bits.{everywhere}
use Rattle.ranked.proofs.snapshots.starts.Goals as goal

pub returns : goal.returns
returns g c =
    let limits = g.C.Chart.limits c.args.chart.now in
    everywhere c.members.result ((g.C.Chart.meaning c.args.chart.now).start) (omega arith)
    (λ q h. let told = c.members.ensures q h in search rules) (λ q e. omega (arith, limits.starts q e, limits.size.few_states))
