-- What a search of a graph promises: it says nothing of the way.
use Rattle.std.specs.Prelude.{◌≡◌, ℕ, ◌<◌, ◌≤◌, List, length, Some, None, Option}
use Rattle.records.specs.declared.faults.SearchFault.{SearchFault}
use Rattle.records.specs.declared.faults.SearchFault.TheVariants.{Table, Full}
use Rattle.graph.specs.Graphs.{Graph}
use Rattle.graph.specs.Walks.{Reach, Recurring, MarkedCycle, More, Measure}
use Rattle.records.specs.Sizes.{Allowed}
use Rattle.records.specs.declared.record.Record.{Record}
use Rattle.search.specs.declared.surveys.Findings.{Findings}
use Rattle.records.specs.Tables.{node_at, measure_at}

-- the first `count` records of the table hold each reachable node once
pub record Collected (g : Graph) (count : ℕ) (work : List Record) : Type 0 where
  pub fits : count ≤ length work
  pub apart : (i j : ℕ) → i < count → j < count → node_at work i ≡ node_at work j → i ≡ j
  pub reached : (i : ℕ) → i < count → Reach g (node_at work i)
  pub whole : (v : ℕ) → Reach g v → (i : ℕ) × (i < count) × (node_at work i ≡ v)

-- A node is named exactly where a reachable marked node lies on a cycle, and it is one; else each measure is the
-- greatest number of marked nodes on a walk from the record's node.
abbrev pub Told : Graph → ℕ → List Record → Option ℕ → Type 0
Told g count work None =
    (MarkedCycle g → ⊥) × ((i : ℕ) → i < count → Measure g (node_at work i) (measure_at work i))
Told g count work (Some v) = Recurring g v

pub record Surveyed (g : Graph) (work : List Record) (r : Findings) : Type 0 where
  pub allowed : Allowed (length work)
  pub collected : Collected g r.count work
  pub told : Told g r.count work r.witness
  -- so there are not too many nodes
  pub room : More g (length work) → ⊥

-- Refused: the table is as it was where its length is not allowed; else there are too many nodes for it.
abbrev pub Refused : Graph → List Record → List Record → SearchFault → Type 0
Refused g was work Table = (Allowed (length was) → ⊥) × (work ≡ was)
Refused g was work Full = Allowed (length was) × More g (length was)
