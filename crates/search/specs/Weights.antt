-- What is found out about a finished component.
use Rattle.std.specs.Prelude.{◌≡◌, ℕ, suc, ◌+◌, ◌-◌, ◌<◌, ◌≤◌, true, ◌⊎◌, List, length, Some, None, Option, Ok, Err, Result, ◌≢◌}
use Rattle.graph.specs.Graphs.{Graph}
use Rattle.graph.specs.Walks.{Recurring, Measure}
use Rattle.records.specs.declared.record.Record.{Record}
use Rattle.search.specs.Progress.{Progress}
use Rattle.graph.specs.Ascending.{Passed}
use Rattle.search.specs.Searches.{Explored, Searching, Keeps}
use Rattle.records.specs.Tables.{node_at, letter_at, measure_at, At}
use Rattle.search.specs.Links.{low_at, up_at}
use Rattle.search.specs.Trees.{Held, Done}

-- r is the measure of the done place that has the node, or 0 where none has it
abbrev pub Weight : ℕ → ℕ → List Record → ℕ → Type 0
Weight top node work r =
    ((i : ℕ) × (top ≤ i) × (i < length work) × (node_at work i ≡ node) × (measure_at work i ≡ r))
    ⊎ ((At (node_at work) top (length work) node → ⊥) × (r ≡ 0))

-- done places hold different nodes
abbrev pub Apart : ℕ → List Record → Type 0
Apart top work =
    (i j : ℕ) → top ≤ i → i < length work → top ≤ j → j < length work → node_at work i ≡ node_at work j → i ≡ j

-- v leads to w by the letter, and w is passed
abbrev pub Below : Graph → ℕ → ℕ → Option ℕ → ℕ → Type 0
Below g v l from w = (g.edge v l w ≡ true) × Passed from w

-- no place from cur on and below s has a marked node
abbrev pub Unmarked : Graph → ℕ → ℕ → List Record → Type 0
Unmarked g cur s work = (u : ℕ) → cur ≤ u → u < s → g.marked (node_at work u) ≢ true

-- v is marked and stands at such a place
abbrev pub MarkedIn : Graph → ℕ → ℕ → List Record → ℕ → Type 0
MarkedIn g cur s work v = (u : ℕ) × (cur ≤ u) × (u < s) × (node_at work u ≡ v) × (g.marked v ≡ true)

-- the current place is explored, and is the root of the component from it on
pub record Rooted (g : Graph) (s top cur : ℕ) (found : Option ℕ) (work : List Record) : Type 0 where
  pub here : Explored g s top cur found work
  pub root : low_at work cur ≡ cur

abbrev pub IsRooted : Graph → Progress → List Record → Type 0
IsRooted g p work = Rooted g p.size p.top p.cur p.found work

-- a node is named only if it lies on a marked cycle; if none is, none was before, and the measure is that of each place
abbrev pub ComponentTold : Graph → ℕ → ℕ → List Record → Option ℕ → ℕ → Option ℕ → Type 0
ComponentTold g cur s work before m None =
    (before ≡ None) × ((u : ℕ) → cur ≤ u → u < s → Measure g (node_at work u) m)
ComponentTold g cur s work before m (Some v) = Recurring g v

-- the component has measure m, where f is a node on a marked cycle or there is none
pub record Assessed (g : Graph) (s top cur : ℕ) (before : Option ℕ) (work : List Record) (m : ℕ) (f : Option ℕ) : Type 0 where
  pub fits : m ≤ length work - top + 1
  pub told : ComponentTold g cur s work before m f

-- and is told by its measure, or by such a node
abbrev pub Assessment : Graph → ℕ → ℕ → ℕ → Option ℕ → List Record → Result ℕ ℕ → Type 0
Assessment g s top cur before work (Ok m) = Assessed g s top cur before work m None
Assessment g s top cur before work (Err v) = Assessed g s top cur before work 0 (Some v)

-- The component is done: the stack ends below it, and its root's parent goes on behind the root.
pub record Retired (g : Graph) (s top cur : ℕ) (was work : List Record) (found : Option ℕ) : Type 0 where
  pub held : Held g cur (top - (s - cur)) (length work) (node_at work)
  pub done : Done g (top - (s - cur)) (length work) (node_at work) (measure_at work) found
  pub busy : 0 < cur → Searching g cur (top - (s - cur)) (up_at was cur) (suc (node_at was cur)) work
  pub parent : 0 < cur → (up_at was cur < cur) × (letter_at work (up_at was cur) < g.letters)
  pub keeps : Keeps s top was cur (top - (s - cur)) work

-- how far the search has come then
abbrev pub HasRetired : Progress → Progress → Type 0
HasRetired p q = q ≡ record { size = p.cur; top = p.top - (p.size - p.cur); cur = p.cur; from = p.from; found = q.found }
