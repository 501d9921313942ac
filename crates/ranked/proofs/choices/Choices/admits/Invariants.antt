use Rattle.std.proofs.Common.{◌≡◌, ℕ, ◌<◌, true, get_or}
use Rattle.numbers.specs.Bits.{bit}
use Rattle.ranked.specs.Digits.{digit}
use Rattle.ranked.proofs.choices.Choices.admits.Given as goal

abbrev pub invariant-loop-q : goal.invariant-loop-q
invariant-loop-q l = (k : ℕ) → k < l.q → bit (get_or l.self.digits k 0) (digit l.ranks k) ≡ true
