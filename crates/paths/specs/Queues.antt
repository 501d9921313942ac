-- Paths that are looked for breadth first, and the queue of such a search. Of a queue, the first s records of a table are in use.
use Rattle.std.specs.Prelude.{◌≡◌, ℕ, suc, ◌<◌, ◌≤◌, Bool, true, ◌⊎◌, List, length, set, Result, MatchResult, ◌≢◌, ◌==◌}
use Rattle.graph.specs.Graphs.{Graph}
use Rattle.graph.specs.Walks.{Edge, Reach, More}
use Rattle.paths.specs.declared.queues.Origin.{Origin}
use Rattle.paths.specs.declared.queues.Origin.TheVariants.{Starts, Node}
use Rattle.paths.specs.declared.queues.Stop.{Stop}
use Rattle.paths.specs.declared.queues.Stop.TheVariants.{Full, Found}
use Rattle.paths.specs.declared.queues.PathQuery.{PathQuery}
use Rattle.records.specs.declared.record.Record.{Record}
use Rattle.graph.specs.Implicit.{graph_of}
use Rattle.records.specs.Tables.{node_at, letter_at, measure_at, At}

-- do paths begin at v?
abbrev pub begins : Graph → Origin → ℕ → Bool
begins g Starts = g.start
begins g (Node u) = λ v. v == u

-- the graph that starts where paths begin
abbrev pub rooted : Graph → Origin → Graph
rooted g from = record { letters = g.letters; node = g.node; start = begins g from; marked = g.marked; edge = g.edge }

abbrev pub graph_for : {M : Type 0} → (M → List ℕ → ℕ → Graph) → PathQuery M → Graph
graph_for graph q = rooted (graph_of graph q.graph) q.from

-- how a record with letter l and measure m leads to node v: as a start, or by an edge from a place below s
abbrev pub Link : Graph → (ℕ → ℕ) → ℕ → ℕ → ℕ → ℕ → Type 0
Link g node s l m v =
    ((m ≡ 0) × (g.start v ≡ true)) ⊎ ((p : ℕ) × (m ≡ suc p) × (p < s) × (g.edge (node p) l v ≡ true))

-- the queue holds different nodes, each reachable from where paths begin, and each record leads to its node from a place before it
pub record Queued (g : Graph) (s : ℕ) (node letter up : ℕ → ℕ) : Type 0 where
  pub apart : (i j : ℕ) → i < s → j < s → node i ≡ node j → i ≡ j
  pub reached : (i : ℕ) → i < s → Reach g (node i)
  pub back : (i : ℕ) → i < s → Link g node i (letter i) (up i) (node i)

abbrev pub IsQueued : Graph → ℕ → List Record → Type 0
IsQueued g s work = Queued g s (node_at work) (letter_at work) (measure_at work)

-- a record leads to each node that passes a test
abbrev pub Leads : Graph → (ℕ → Bool) → Record → ℕ → List Record → Type 0
Leads g P by s work = (v : ℕ) → P v ≡ true → Reach g v × Link g (node_at work) s by.letter by.measure v

-- a path from one node has an edge at least: its last record is no start
abbrev pub Leaves : Origin → ℕ → Type 0
Leaves from m = m ≡ 0 → from ≡ Starts

-- the queue has the record's node now, and nothing is lost
abbrev pub Added : Record → ℕ → List Record → ℕ → List Record → Type 0
Added r s was t work =
    ((t ≡ s) × (work ≡ was) × At (node_at was) 0 s r.node)
    ⊎ ((t ≡ suc s) × (work ≡ set was s r) × (s < length was) × (At (node_at was) 0 s r.node → ⊥))

-- the queue is full without the record's node
abbrev pub NoRoom : Record → ℕ → List Record → Stop → Type 0
NoRoom r s was Full = (s ≡ length was) × (At (node_at was) 0 s r.node → ⊥)
NoRoom r s was _ = ⊥

-- what is longer than a queue begins with the same nodes
pub record Longer (s : ℕ) (was : List Record) (t : ℕ) (work : List Record) : Type 0 where
  pub more : s ≤ t
  pub same : (i : ℕ) → i < s → node_at work i ≡ node_at was i

-- the queue has each node of which P holds now, and none of them is the one that is looked for
pub record Taken (g : Graph) (to : ℕ) (P : ℕ → Type 0) (s : ℕ) (was : List Record) (t : ℕ) (work : List Record) : Type 0 where
  pub queued : IsQueued g t work
  pub longer : Longer s was t work
  pub all : (v : ℕ) → P v → (v ≢ to) × At (node_at work) 0 t v

-- more nodes can be reached than there are records, or the node is found, and the record would lead to it
abbrev pub Halted : Graph → Origin → ℕ → ℕ → List Record → Stop → Type 0
Halted g from to s work Full = More g (length work)
Halted g from to s work (Found r) =
    IsQueued g s work × Link g (node_at work) s r.letter r.measure to × Reach g to × Leaves from r.measure

abbrev pub HaltedFor : {M : Type 0} → (M → List ℕ → ℕ → Graph) → PathQuery M → ℕ → List Record → Stop → Type 0
HaltedFor graph q s work = Halted (graph_for graph q) q.from q.to s work

-- what comes of adding each node of which P holds: the queue has them all, unless the search ends before
abbrev pub Took :
    {M : Type 0} → (M → List ℕ → ℕ → Graph) → PathQuery M → (ℕ → Type 0) → ℕ → List Record → ℕ → List Record → Result (Unit {0}) Stop
    → Type 0
Took graph q P s was t work r = MatchResult r (λ _. Taken (graph_for graph q) q.to P s was t work) (HaltedFor graph q t work)

-- the queue has the nodes where paths begin, and the one that is looked for is none of the starts, if these are meant
pub record Begun (g : Graph) (from : Origin) (to s : ℕ) (work : List Record) : Type 0 where
  pub queued : IsQueued g s work
  pub starts : (v : ℕ) → g.start v ≡ true → At (node_at work) 0 s v
  pub other : from ≡ Starts → g.start to ≢ true

-- no path leads to a node: no edge does from where paths lead, and it is none of the starts, if these are meant
pub record Missed (g : Graph) (from : Origin) (to : ℕ) : Type 0 where
  pub no_edge : (u : ℕ) → Reach g u → Edge g u to → ⊥
  pub no_start : from ≡ Starts → g.start to ≢ true
