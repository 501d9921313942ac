use Rattle.std.proofs.Common.{get_or, ap, sym, ◌∙◌, arith}
use Rattle.std.proofs.lemmas.Bool.{both_ways, false_from_ne_true}
use Rattle.numbers.specs.Bits.{bit}
use Rattle.ranked.specs.Digits.{digit, drawn}
use Rattle.ranked.proofs.Numerals.{drawn_at}
use Rattle.ranked.proofs.choices.Choices.admits.Goals as goal

pub returns-then-not-contains : goal.returns-then-not-contains
returns-then-not-contains c =
    sym (false_from_ne_true (drawn c.args.self.digits 6 c.args.ranks)
    (λ m. both_ways (bit (get_or c.args.self.digits c.loop-q.q 0) (digit c.args.ranks c.loop-q.q)) (ap (λ d. bit (get_or c.args.self.digits c.loop-q.q 0) d) (sym c.digit.ensures) ∙ sym c.if-not-contains.ensures)
    (drawn_at c.args.self.digits 6 c.args.ranks m c.loop-q.q (omega arith))))
