-- What the functions on tables change.
use Rattle.std.specs.Prelude.{◌≡◌, ℕ, ◌<◌, min, Bool, ◌⊎◌, true, false, List, length, ◌≢◌}
use Rattle.records.specs.declared.record.Record.{Record}
use Rattle.records.specs.Tables.{node_at, letter_at, measure_at, At}
use Rattle.search.specs.Links.{low_at, up_at}
use Rattle.search.specs.Trees.{Used}
use Rattle.numbers.specs.Puts.{put}

-- place i has letter l and low link m, and all else is as it was
pub record Changed (i l m : ℕ) (was work : List Record) : Type 0 where
  pub nodes : node_at work ≡ node_at was
  pub letters : letter_at work ≡ put (letter_at was) i l
  pub lows : low_at work ≡ put (low_at was) i m
  pub ups : up_at work ≡ up_at was
  pub measures : (k : ℕ) → (k ≢ i) → measure_at work k ≡ measure_at was k

-- at most the letter and the measure of place i are not as they were
pub record Quiet (i : ℕ) (was work : List Record) : Type 0 where
  pub nodes : node_at work ≡ node_at was
  pub letters : (k : ℕ) → (k ≢ i) → letter_at work k ≡ letter_at was k
  pub measures : (k : ℕ) → (k ≢ i) → measure_at work k ≡ measure_at was k

-- the table has a node that the current place leads to: the place's low link is not above it if it is on the stack
abbrev pub Met : ℕ → ℕ → ℕ → ℕ → List Record → List Record → Bool → Type 0
Met size top cur node was work true =
    ((i : ℕ) × (i < size) × (node_at was i ≡ node) × Changed cur (letter_at was cur) (min (low_at was cur) i) was work)
    ⊎ ((work ≡ was) × At (node_at was) top (length was) node)
Met size top cur node was work false =
    (work ≡ was) × ((i : ℕ) → Used size top (length was) i → node_at was i ≢ node)
