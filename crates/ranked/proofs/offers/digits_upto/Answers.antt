use Rattle.std.proofs.Common.{sym, ◌∙◌, ap}
use Rattle.ranked.specs.Following.{is_upto}
use Rattle.ranked.proofs.Upto.{bit_zero, upto_any, upto_odd}
use Rattle.ranked.proofs.offers.digits_upto.Goals as goal

pub returns-then-most-eq0 : goal.returns-then-most-eq0
returns-then-most-eq0 c = λ d h. bit_zero d h ∙ sym (ap (λ m. is_upto m c.args.odd d) c.if-most-eq0.true)

pub returns-then-odd : goal.returns-then-odd
returns-then-odd c =
    λ d h. upto_odd c.args.most c.if-most-eq0.false c.requires d h ∙ sym (ap (λ t. is_upto c.args.most t d) c.if-odd.true)

pub returns-else-odd : goal.returns-else-odd
returns-else-odd c =
    λ d h. upto_any c.args.most c.if-most-eq0.false c.requires d h ∙ sym (ap (λ t. is_upto c.args.most t d) c.if-odd.false)
