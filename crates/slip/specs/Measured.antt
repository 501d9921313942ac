-- Records that hold each reachable node with its measure, and the letters of records.
use Rattle.std.specs.Prelude.{◌≡◌, ℕ, ◌<◌, List, length, map}
use Rattle.graph.specs.Graphs.{Graph}
use Rattle.graph.specs.Walks.{Reach, Measure}
use Rattle.records.specs.Tables.{node_at, letter_at, measure_at}
use Rattle.records.specs.declared.record.Record.{Record}

-- the letters of records
abbrev pub letters : List Record → List ℕ
letters rs = map (λ r. r.letter) rs

-- The records have each reachable node once, with letter 0 and its measure.
pub record Measured (g : Graph) (rs : List Record) : Type 0 where
  pub apart : (i k : ℕ) → i < length rs → k < length rs → node_at rs i ≡ node_at rs k → i ≡ k
  pub reached : (i : ℕ) → i < length rs → Reach g (node_at rs i)
  pub whole : (v : ℕ) → Reach g v → (i : ℕ) × (i < length rs) × (node_at rs i ≡ v)
  pub letters : (i : ℕ) → i < length rs → letter_at rs i ≡ 0
  pub measures : (i : ℕ) → i < length rs → Measure g (node_at rs i) (measure_at rs i)
