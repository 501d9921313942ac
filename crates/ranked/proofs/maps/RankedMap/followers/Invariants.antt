use Rattle.std.proofs.Common.{◌≡◌, ℕ, ◌&&◌}
use Rattle.numbers.specs.Bits.{bit}
use Rattle.numbers.specs.Below.{any_below}
use Rattle.ranked.specs.Maps.{rule_of}
use Rattle.ranked.proofs.maps.RankedMap.followers.Given as goal

abbrev pub invariant-loop-p : goal.invariant-loop-p
invariant-loop-p l = (q : ℕ) → bit l.followers q ≡ any_below l.p (λ p. bit l.set p && (rule_of l.self).step p l.letter q)
