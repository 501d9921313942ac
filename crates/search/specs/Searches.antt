-- A search on its way: what holds of its table, and what its steps make of it.
use Rattle.std.specs.Prelude.{◌≡◌, ℕ, ◌+◌, ◌-◌, ◌*◌, ◌^◌, ◌<◌, ◌≤◌, true, ◌⊎◌, List, length, set, Some, None, Option, ◌≢◌}
use Rattle.records.specs.declared.faults.SearchFault.{SearchFault}
use Rattle.records.specs.declared.faults.SearchFault.TheVariants.{Full}
use Rattle.graph.specs.Graphs.{Graph}
use Rattle.numbers.specs.Least.{Least}
use Rattle.graph.specs.Walks.{More}
use Rattle.records.specs.declared.record.Record.{Record}
use Rattle.search.specs.Changes.{Changed, Quiet}
use Rattle.search.specs.Progress.{Progress}
use Rattle.records.specs.Tables.{node_at, letter_at, measure_at, At}
use Rattle.search.specs.Links.{low_at, up_at}
use Rattle.search.specs.Trees.{Used, Held, Done, Tree}

-- the stack is below s, what is done is from top on, and the search goes on at place cur and node `from`
pub record Searching (g : Graph) (s top cur from : ℕ) (work : List Record) : Type 0 where
  pub at : ℕ → ℕ
  pub held : Held g s top (length work) (node_at work)
  pub tree : Tree g s top (length work) cur (node_at work) (letter_at work) (low_at work) (up_at work) at
  pub frontier : at cur ≡ from

-- the same, where the current place has no letter left
pub record Explored (g : Graph) (s top cur : ℕ) (found : Option ℕ) (work : List Record) : Type 0 where
  pub from : ℕ
  pub going : Searching g s top cur from work
  pub done : Done g top (length work) (node_at work) (measure_at work) found
  pub explored : g.letters ≤ letter_at work cur

-- the same two, of the progress of a search
abbrev pub IsSearching : Graph → Progress → List Record → Type 0
IsSearching g p work = Searching g p.size p.top p.cur p.from work

abbrev pub IsExplored : Graph → Progress → List Record → Type 0
IsExplored g p work = Explored g p.size p.top p.cur p.found work

-- a search between two of its steps; the stack may be empty
pub record Going (g : Graph) (p : Progress) (work : List Record) : Type 0 where
  pub held : Held g p.size p.top (length work) (node_at work)
  pub done : Done g p.top (length work) (node_at work) (measure_at work) p.found
  pub busy : 0 < p.size → Searching g p.size p.top p.cur p.from work
  pub idle : p.size ≡ 0 → p.cur ≡ 0

-- the table has node v
abbrev pub Holds : ℕ → ℕ → List Record → ℕ → Type 0
Holds s top work v = (i : ℕ) × Used s top (length work) i × (node_at work i ≡ v)

-- every node that the table had it has still
abbrev pub Keeps : ℕ → ℕ → List Record → ℕ → ℕ → List Record → Type 0
Keeps s top was s' top' work = (v : ℕ) → Holds s top was v → Holds s' top' work v

-- what falls with each step: a new node takes a record for good, and then places are left and components are done
abbrev pub ahead : Progress → ℕ
ahead p = 200000 * (p.top - p.size) + p.cur + p.size

pub record Stepped (g : Graph) (p : Progress) (was : List Record) (work : List Record) (q : Progress) : Type 0 where
  pub going : Going g q work
  pub keeps : Keeps p.size p.top was q.size q.top work
  pub less : ahead q < ahead p

-- the stack is empty: all is done
pub record Rested (g : Graph) (p : Progress) (was : List Record) (work : List Record) (q : Progress) : Type 0 where
  pub going : Going g q work
  pub keeps : Keeps p.size p.top was q.size q.top work
  pub empty : q.size ≡ 0

-- and the start is done
pub record Visited (g : Graph) (p : Progress) (start : ℕ) (was work : List Record) (q : Progress) : Type 0 where
  pub rested : Rested g p was work q
  pub holds : Holds q.size q.top work start

-- all is done that can be reached
pub record Swept (g : Graph) (work : List Record) (q : Progress) : Type 0 where
  pub going : Going g q work
  pub empty : q.size ≡ 0
  pub starts : (v : ℕ) → g.start v ≡ true → At (node_at work) q.top (length work) v

-- a new node is pushed
abbrev pub Entered : Progress → ℕ → List Record → List Record → Progress → Type 0
Entered p next was work q =
    (p.size < p.top)
    × (q ≡ record { size = p.size + 1; top = p.top; cur = p.size; from = 0; found = p.found })
    × (work ≡ set was p.size (record { node = next; letter = 0; measure = p.cur * 65536 + p.size }))

-- there is no room for one
abbrev pub Crowded : Progress → SearchFault → Type 0
Crowded p Full = p.size ≡ p.top
Crowded p _ = ⊥

-- more nodes can be reached than a table of n records has room for
abbrev pub TooMany : Graph → ℕ → SearchFault → Type 0
TooMany g n Full = More g n
TooMany g n _ = ⊥

-- where a place goes on behind a node
abbrev pub Resumed : ℕ → ℕ → List Record → List Record → ℕ → Type 0
Resumed cur node was work r =
    ((r ≡ node + 1) × (node + 1 < 2 ^ 64) × (work ≡ was))
    ⊎ ((r ≡ 0) × (2 ^ 64 ≤ node + 1) × Changed cur (letter_at was cur + 1) (low_at was cur) was work)

-- the search goes on at a place, behind a node
abbrev pub GoesOn : ℕ → ℕ → Progress → List Record → List Record → Progress → Type 0
GoesOn place node p was work q =
    (q ≡ record { size = p.size; top = p.top; cur = place; from = q.from; found = p.found })
    × Resumed place node was work q.from

-- at most the node at which it goes on is not as it was
abbrev pub IsFurther : Progress → Progress → Type 0
IsFurther p q = q ≡ record { size = p.size; top = p.top; cur = p.cur; from = q.from; found = p.found }

-- what is left to look at where a place is at its letter and at node x
abbrev pub left : Graph → ℕ → ℕ → ℕ
left g letter x = (g.letters - letter) * 2 ^ 64 + (2 ^ 64 - x)

-- the next edge of the current place, at or behind node `from`, leads to a node that the table does not have
pub record Fresh (g : Graph) (s top cur from : ℕ) (work : List Record) (next : ℕ) : Type 0 where
  pub left : letter_at work cur < g.letters
  pub least : Least (g.edge (node_at work cur) (letter_at work cur)) from (Some next)
  pub new : (i : ℕ) → Used s top (length work) i → node_at work i ≢ next

abbrev pub Looked : Graph → ℕ → ℕ → ℕ → ℕ → List Record → List Record → ℕ → Option ℕ → Type 0
Looked g s top cur from was work x (Some next) = (x ≡ from) × (work ≡ was) × Fresh g s top cur from was next
Looked g s top cur from was work x None =
    Searching g s top cur x work × Quiet cur was work × (left g (letter_at work cur) x < left g (letter_at was cur) from)

abbrev pub Scanned : Graph → ℕ → ℕ → ℕ → List Record → List Record → Option ℕ → Type 0
Scanned g s top cur was work None =
    Quiet cur was work × ((x : ℕ) × Searching g s top cur x work) × (g.letters ≤ letter_at work cur)
Scanned g s top cur was work (Some next) =
    Quiet cur was work × ((x : ℕ) × Searching g s top cur x work × Fresh g s top cur x work next)
