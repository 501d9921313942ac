use Rattle.std.proofs.Common.{◌≡◌, ℕ, ◌/◌, ◌%◌, ◌<◌, slice_index}
use Rattle.numbers.specs.Bits.{bit}
use Rattle.ranked.proofs.snapshots.rows.Given as goal

abbrev pub invariant-loop-k : goal.invariant-loop-k
invariant-loop-k g l =
    (k q : ℕ) → k < l.k → bit (slice_index l.row-items k) q ≡ (g.C.Chart.meaning l.chart).step (k / 16) (k % 16) q
