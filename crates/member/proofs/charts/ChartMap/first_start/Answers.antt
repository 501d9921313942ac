-- A start is a state, so below 32.
use Rattle.std.proofs.Common.{arith, rules, tests}
use Rattle.numbers.proofs.Finding.{least_found}
use Rattle.member.proofs.charts.ChartMap.first_start.Goals as goal

pub returns : goal.returns
returns g c =
    let h = g.C.Chart.limits c.args.self.now.chart.now in
    least_found (g.C.Chart.meaning c.args.self.now.chart.now).start _ _ _ _ (λ q e. omega (arith, h.starts q e, h.size.few_states))
    c.find.ensures.ran (λ q f k. search (rules, tests)) (λ q f k. search (rules, tests))
