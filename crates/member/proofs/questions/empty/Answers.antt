use Rattle.std.proofs.Common.{ap}
use Rattle.member.proofs.Deciding.{answer_empty, never_refused}
use Rattle.member.proofs.questions.empty.Goals as goal

pub returns-clause-told : goal.returns-clause-told
returns-clause-told g c =
    answer_empty (g.C.Chart.meaning c.args.chart.now) (g.C.Chart.meaning c.new-map.result.chart.now) (ap g.C.Chart.meaning c.new-map.ensures)
    (g.C.Chart.limits c.args.chart.now) _ c.survey.new.work c.in_ok-found.found c.has_cycle.result c.survey.auto.work c.has_cycle.ensures c.in_ok-found.ensures

pub returns-in_err-found-clause-enough : goal.returns-in_err-found-clause-enough
returns-in_err-found-clause-enough g c =
    λ enough few. absurd (never_refused (g.C.Chart.meaning c.args.chart.now) (g.C.Chart.meaning c.new-map.result.chart.now) (ap g.C.Chart.meaning c.new-map.ensures)
    (g.C.Chart.limits c.args.chart.now) c.args.work.now c.survey.new.work c.in_err-found.field-0.0 enough few c.in_err-found.ensures)
