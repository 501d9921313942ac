-- A lasso of a graph through a marked node, written into a table.
use Rattle.std.specs.Prelude.{◌≡◌, ℕ, ◌*◌, ◌<◌, ◌≤◌, true, ◌++◌, List, drop, length, Some, None, Option, Result, MatchResult}
use Rattle.records.specs.declared.faults.SearchFault.{SearchFault}
use Rattle.records.specs.declared.faults.SearchFault.TheVariants.{Table, Full}
use Rattle.graph.specs.Graphs.{Graph}
use Rattle.graph.specs.Walks.{Recurring, More}
use Rattle.graph.specs.Witnesses.{MarkedLasso}
use Rattle.paths.specs.declared.lassos.Extent.{Extent}
use Rattle.records.specs.declared.record.Record.{Record}
use Rattle.records.specs.Sizes.{Allowed}
use Rattle.records.specs.Tables.{node_at, letter_at, measure_at}

-- a work table may have n records, and the table that a lasso is written into m
pub record Sized (n m : ℕ) : Type 0 where
  pub allowed : Allowed n
  pub twice : 2 * n ≤ m

abbrev pub SizesRefused : ℕ → ℕ → SearchFault → Type 0
SizesRefused n m Table = Sized n m → ⊥
SizesRefused n m _ = ⊥

-- the records of a table from place n on are as they were
abbrev pub Kept : ℕ → List Record → List Record → Type 0
Kept n was table = drop n table ≡ drop n was

-- The first records of the table are a marked lasso with all measures 0, whose loop begins at the node, and the others are as
-- they were; a search in n records has found it.
pub record Written (g : Graph) (node n : ℕ) (was table : List Record) (c : Extent) : Type 0 where
  pub records : List Record
  pub count : length records ≡ c.count
  pub fits : c.count ≤ length was
  pub short : c.count ≤ 2 * n
  pub changed : table ≡ records ++ drop c.count was
  pub lasso : MarkedLasso g (node_at records) (letter_at records) c.count c.stem
  pub through : node_at records c.stem ≡ node
  pub measures : (k : ℕ) → k < c.count → measure_at records k ≡ 0

-- A lasso is written, and so the node is a reachable marked one on a cycle, or it is none.
abbrev pub LassoTold : Graph → ℕ → ℕ → List Record → List Record → Option Extent → Type 0
LassoTold g node n was table None = Sized n (length was) × (Recurring g node → ⊥) × Kept n was table
LassoTold g node n was table (Some c) = Sized n (length was) × Recurring g node × Written g node n was table c

-- Refused: both tables are as they were where a size is wrong; else the node is marked, and more nodes can be reached than the work
-- table has records.
abbrev pub LassoRefused : Graph → ℕ → List Record → List Record → List Record → List Record → SearchFault → Type 0
LassoRefused g node before work was table Table = (Sized (length before) (length was) → ⊥) × (work ≡ before) × (table ≡ was)
LassoRefused g node before work was table Full =
    Sized (length before) (length was) × (g.marked node ≡ true) × More g (length before) × Kept (length before) was table

-- what comes of looking for a lasso in a work table and writing it into a table, which held `before` and `was`
abbrev pub LassoAnswer : Graph → ℕ → List Record → List Record → List Record → List Record → Result (Option Extent) SearchFault → Type 0
LassoAnswer g node before work was table r =
    MatchResult r (LassoTold g node (length before) was table) (LassoRefused g node before work was table)
