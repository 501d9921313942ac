use Rattle.std.proofs.Common.{ap, subst}
use Rattle.lasso.specs.Words.{IsWord}
use Rattle.member.proofs.Deciding.{answer_member}
use Rattle.member.proofs.questions.member.Goals as goal

pub returns : goal.returns
returns g c =
    let word = c.args.word.elements.now in
    let stem = c.args.word.stem in
    answer_member (g.C.Chart.meaning c.args.chart.now) (g.C.Chart.meaning c.new-map.result.states.chart.now) (ap g.C.Chart.meaning c.new-map.ensures)
    (g.C.Chart.limits c.args.chart.now) word stem _ c.survey.new.work c.in_ok-found.found c.has_cycle.result
    (subst (λ n. IsWord n word stem) c.letters.ensures c.in_ok-check_letters.ensures)
    c.survey.auto.work c.has_cycle.ensures c.in_ok-found.ensures
