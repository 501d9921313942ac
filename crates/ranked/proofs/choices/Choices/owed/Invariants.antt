use Rattle.std.proofs.Common.{◌≡◌, ◌%◌, ◌&&◌, eqb}
use Rattle.numbers.specs.Bits.{bit}
use Rattle.rank.specs.Layout.{fields, flag}
use Rattle.ranked.specs.Digits.{digit}
use Rattle.ranked.proofs.choices.Choices.owed.Given as goal

abbrev pub invariant-loop-q : goal.invariant-loop-q
invariant-loop-q l = l.owed ≡ fields 1 (λ q. flag (eqb (digit l.ranks q % 2) 1 && bit l.self.owing q)) l.q
