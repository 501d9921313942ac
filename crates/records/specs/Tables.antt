-- Tables of records, by their columns.
use Rattle.std.specs.Prelude.{◌≡◌, ℕ, ◌<◌, ◌≤◌, List, length, slice_index_or}
use Rattle.std.specs.Borrow.{MutBor}
use Rattle.records.specs.declared.record.Record.{Record}

-- what is read past the end of a table
abbrev pub blank : Record
blank = record { node = 0; letter = 0; measure = 0 }

abbrev pub node_at : List Record → ℕ → ℕ
node_at work i = (slice_index_or work i blank).node

abbrev pub letter_at : List Record → ℕ → ℕ
letter_at work i = (slice_index_or work i blank).letter

abbrev pub measure_at : List Record → ℕ → ℕ
measure_at work i = (slice_index_or work i blank).measure

-- some place from a on and below b has node w
abbrev pub At : (ℕ → ℕ) → ℕ → ℕ → ℕ → Type 0
At node a b w = (j : ℕ) × (a ≤ j) × (j < b) × (node j ≡ w)

-- the table is the same one, and as long as it was
pub record SameTable (was work : MutBor (List Record)) : Type 0 where
  pub reference : work.ghost_name ≡ was.ghost_name
  pub len : length work.now ≡ length was.now
