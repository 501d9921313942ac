-- The table of a search, with s records on its stack, and what is done from place top on.
use Rattle.std.specs.Prelude.{◌≡◌, ℕ, suc, ◌+◌, ◌-◌, ◌<◌, ◌≤◌, List, length, set, slice_index_or}
use Rattle.records.specs.declared.faults.SearchFault.{SearchFault}
use Rattle.records.specs.declared.faults.SearchFault.TheVariants.{Full}
use Rattle.records.specs.declared.record.Record.{Record}
use Rattle.records.specs.Tables.{blank, node_at, letter_at, measure_at}

-- the stack has one record more
abbrev pub Pushed : Record → ℕ → ℕ → List Record → ℕ → List Record → Type 0
Pushed r s top was t work = (s < top) × (t ≡ suc s) × (work ≡ set was s r)

-- no record is free
abbrev pub NotPushed : ℕ → ℕ → List Record → ℕ → List Record → SearchFault → Type 0
NotPushed s top was t work Full = (s ≡ top) × (t ≡ s) × (work ≡ was)
NotPushed s top was t work _ = ⊥

-- the record of a done place that has the node
abbrev pub DoneRecord : ℕ → ℕ → List Record → Record → Type 0
DoneRecord top node work r =
    (i : ℕ) × (top ≤ i) × (i < length work) × (node_at work i ≡ node) × (slice_index_or work i blank ≡ r)

-- the records from one place on and below another stand from a third place on, and the others are as they were
pub record CopiedTo (from end to : ℕ) (was work : List Record) : Type 0 where
  pub same_length : length work ≡ length was
  pub copied : (k : ℕ) → to ≤ k → k < to + (end - from) → slice_index_or work k blank ≡ slice_index_or was (from + (k - to)) blank
  pub below : (k : ℕ) → k < to → slice_index_or work k blank ≡ slice_index_or was k blank
  pub above : (k : ℕ) → to + (end - from) ≤ k → slice_index_or work k blank ≡ slice_index_or was k blank

-- The stack from place cur on is moved up to end at top, each record with letter 0 and the same measure. What is below where it stands
-- then is as it was, and so is what was done.
pub record Risen (s top cur measure : ℕ) (was work : List Record) : Type 0 where
  pub below : (k : ℕ) → k < top - (s - cur) → (node_at work k ≡ node_at was k) × (letter_at work k ≡ letter_at was k) × (measure_at work k ≡ measure_at was k)
  pub moved : (k : ℕ) → cur ≤ k → k < s → (node_at work (k + (top - s)) ≡ node_at was k) × (letter_at work (k + (top - s)) ≡ 0) × (measure_at work (k + (top - s)) ≡ measure)
  pub done : (k : ℕ) → top ≤ k → k < length was → (node_at work k ≡ node_at was k) × (letter_at work k ≡ letter_at was k) × (measure_at work k ≡ measure_at was k)

-- what stood from top on stands at the front, in its order, and the others are as they were
pub record Settled (top : ℕ) (was work : List Record) : Type 0 where
  pub front : (i : ℕ) → i < length was - top → slice_index_or work i blank ≡ slice_index_or was (top + i) blank
  pub others : (i : ℕ) → length was - top ≤ i → slice_index_or work i blank ≡ slice_index_or was i blank
