-- Paths written into a table.
use Rattle.std.specs.Prelude.{◌≡◌, ℕ, zero, suc, ◌<◌, ◌≤◌, true, ◌++◌, List, drop, length, Some, None, Option}
use Rattle.records.specs.declared.faults.SearchFault.{SearchFault}
use Rattle.records.specs.declared.faults.SearchFault.TheVariants.{Full}
use Rattle.graph.specs.Graphs.{Graph}
use Rattle.graph.specs.Walks.{Reach, More}
use Rattle.paths.specs.declared.queues.Origin.{Origin}
use Rattle.records.specs.declared.record.Record.{Record}
use Rattle.records.specs.Tables.{node_at, letter_at, measure_at}
use Rattle.paths.specs.Queues.{Leaves, Missed}

-- `to`, and then the nodes
abbrev pub behind : ℕ → (ℕ → ℕ) → ℕ → ℕ
behind to node zero = to
behind to node (suc k) = node k

-- The first records are a path to a node, backwards: each leads to the node of the one before it, and the first to `to`. The
-- others are as they were.
pub record Traced (g : Graph) (to count : ℕ) (was table : List Record) : Type 0 where
  pub starts : g.start (behind to (node_at table) count) ≡ true
  pub steps : (k : ℕ) → k < count → g.edge (node_at table k) (letter_at table k) (behind to (node_at table) k) ≡ true
  pub measures : (k : ℕ) → k < count → measure_at table k ≡ 0
  pub rest : drop count table ≡ drop count was

-- a path of so many edges from a start to a node: each node has an edge by its letter to the one behind it
pub record StartPath (g : Graph) (to count : ℕ) (node letter : ℕ → ℕ) : Type 0 where
  pub starts : (zero < count → g.start (node zero) ≡ true) × (count ≡ zero → g.start to ≡ true)
  pub steps : (k : ℕ) → suc k < count → g.edge (node k) (letter k) (node (suc k)) ≡ true
  pub ends : (k : ℕ) → suc k ≡ count → g.edge (node k) (letter k) to ≡ true

-- the first records of the table are a path, and the others are as they were
pub record PathWritten (g : Graph) (from : Origin) (to n : ℕ) (was table : List Record) (count : ℕ) : Type 0 where
  pub records : List Record
  pub count_is : length records ≡ count
  pub short : count ≤ n
  pub changed : table ≡ records ++ drop count was
  pub path : StartPath g to count (node_at records) (letter_at records)
  pub measures : (k : ℕ) → k < count → measure_at records k ≡ 0
  pub reached : Reach g to
  pub leaves : Leaves from count

-- a path is written, or there is none, and the table is as it was
abbrev pub PathTold : Graph → Origin → ℕ → ℕ → List Record → List Record → Option ℕ → Type 0
PathTold g from to n was table None = Missed g from to × (table ≡ was)
PathTold g from to n was table (Some count) = PathWritten g from to n was table count

-- more nodes can be reached than there are records, and the table is as it was
abbrev pub PathRefused : Graph → ℕ → List Record → List Record → SearchFault → Type 0
PathRefused g n was table Full = More g n × (table ≡ was)
PathRefused g n was table _ = ⊥
