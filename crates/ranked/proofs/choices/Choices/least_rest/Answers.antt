use Rattle.std.proofs.Common.{◌≡◌, ◌+◌, ◌-◌, Some, None, ap, subst, sym, ◌∙◌, arith}
use Rattle.numbers.specs.Bits.{bit}
use Rattle.numbers.specs.Least.{Least}
use Rattle.ranked.specs.Choices.{rest, upper}
use Rattle.numbers.proofs.Bits.{member_below}
use Rattle.ranked.proofs.Uppers.{least_rest_none, least_rest_some, upper_small}
use Rattle.ranked.proofs.choices.Choices.least_rest.Goals as goal

pub returns-in_err-duty : goal.returns-in_err-duty
returns-in_err-duty c =
    let at : c.saturating_sub.result ≡ c.args.from - upper c.args.self c.args.ranks = c.saturating_sub.ensures ∙ ap (λ x. c.args.from - x) c.upper-upper.ensures in
    subst (λ o. Least (rest c.args.self c.args.ranks) c.args.from o) (sym c.from_residual.ensures)
    (least_rest_none c.args.self c.args.ranks c.args.from (subst (λ x. Least (λ q. bit c.args.self.duty q) x None) at c.in_err-duty.ensures))

pub overflow_add-result : goal.overflow_add-result
overflow_add-result c =
    let a = c.in_ok-duty.ensures in
    omega (arith, upper_small c.args.self c.args.ranks, member_below c.args.self.duty 32 c.in_ok-duty.duty (omega arith) a.1)

pub returns : goal.returns
returns c =
    let at : c.saturating_sub.result ≡ c.args.from - upper c.args.self c.args.ranks = c.saturating_sub.ensures ∙ ap (λ x. c.args.from - x) c.upper-upper.ensures in
    subst (λ x. Least (rest c.args.self c.args.ranks) c.args.from (Some (x + c.in_ok-duty.duty))) (sym c.upper-upper.ensures)
    (least_rest_some c.args.self c.args.ranks c.args.from c.in_ok-duty.duty
    (subst (λ x. Least (λ q. bit c.args.self.duty q) x (Some c.in_ok-duty.duty)) at c.in_ok-duty.ensures))
