use Rattle.std.proofs.Common.{ℕ, ◌<◌}
use Rattle.numbers.specs.Bits.{bit, Below}
use Rattle.ranked.proofs.sets.members.Given as goal

abbrev pub invariant-loop-q : goal.invariant-loop-q
invariant-loop-q g l = Below l.q l.set × ((k : ℕ) → k < l.q → goal.F-post g l.test k (bit l.set k))
