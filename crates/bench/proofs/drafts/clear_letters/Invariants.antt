use Rattle.std.proofs.Common.{◌≡◌, ℕ, ◌<◌}
use Rattle.records.specs.Tables.{node_at, letter_at, measure_at}
use Rattle.bench.proofs.drafts.clear_letters.Given as goal

-- nodes and measures are as they were, and those that are passed have letter 0
abbrev pub invariant-loop-record : goal.invariant-loop-record
invariant-loop-record l =
    ((k : ℕ) → node_at l.record-items k ≡ node_at l.initial.record-items k)
    × ((k : ℕ) → measure_at l.record-items k ≡ measure_at l.initial.record-items k)
    × ((k : ℕ) → k < l.record-index → letter_at l.record-items k ≡ 0)
