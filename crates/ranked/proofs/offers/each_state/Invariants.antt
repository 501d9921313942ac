use Rattle.std.proofs.Common.{ℕ, ◌<◌, get_or}
use Rattle.ranked.proofs.offers.each_state.Given as goal

abbrev pub invariant-loop-q : goal.invariant-loop-q
invariant-loop-q g l = (k : ℕ) → k < l.q → goal.F-post g l.digits k (get_or l.set-items k 0)
