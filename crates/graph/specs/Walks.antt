-- Ways through a graph: what can be reached, what lies on a cycle, and how many marked nodes a walk can pass.
use Rattle.std.specs.Prelude.{◌≡◌, ℕ, ◌+◌, ◌<◌, ◌≤◌, Bool, true, false, List, [], ◌∷◌}
use Rattle.graph.specs.Graphs.{Graph}

-- some edge leads from v to w
abbrev pub Edge : Graph → ℕ → ℕ → Type 0
Edge g v w = (l : ℕ) × (l < g.letters) × (g.edge v l w ≡ true)

-- v leads to w by a letter below l
abbrev pub ByLetters : Graph → ℕ → ℕ → ℕ → Type 0
ByLetters g v l w = (k : ℕ) × (k < l) × (g.edge v k w ≡ true)

-- v is a start, or edges lead to it from one
pub data Reach (g : Graph) : ℕ → Type 0 where
  begin : {v : ℕ} → g.start v ≡ true → Reach g v
  go : {v w : ℕ} → Reach g v → Edge g v w → Reach g w

-- edges, or none, lead from v to w
pub data To (g : Graph) (w : ℕ) : ℕ → Type 0 where
  here : To g w w
  next : {v u : ℕ} → Edge g v u → To g w u → To g w v

abbrev pub Path : Graph → ℕ → ℕ → Type 0
Path g v w = To g w v

-- one edge or more lead from v back to v
abbrev pub OnCycle : Graph → ℕ → Type 0
OnCycle g v = (u : ℕ) × Edge g v u × Path g u v

-- v is reachable, marked, and on a cycle
pub record Recurring (g : Graph) (v : ℕ) : Type 0 where
  pub reached : Reach g v
  pub marked : g.marked v ≡ true
  pub cycle : OnCycle g v

-- a reachable marked node lies on a cycle
abbrev pub MarkedCycle : Graph → Type 0
MarkedCycle g = (v : ℕ) × Recurring g v

-- n nodes are reachable: the first n of these are different ones, and there is no other
pub record Count (g : Graph) (n : ℕ) : Type 0 where
  pub at : ℕ → ℕ
  pub apart : (i j : ℕ) → i < n → j < n → at i ≡ at j → i ≡ j
  pub reached : (i : ℕ) → i < n → Reach g (at i)
  pub whole : (v : ℕ) → Reach g v → (i : ℕ) × (i < n) × (at i ≡ v)

-- more than n different nodes are reachable
pub record More (g : Graph) (n : ℕ) : Type 0 where
  pub at : ℕ → ℕ
  pub apart : (i j : ℕ) → i ≤ n → j ≤ n → at i ≡ at j → i ≡ j
  pub reached : (i : ℕ) → i ≤ n → Reach g (at i)

-- the nodes of the list come after v, each by an edge from the one before
abbrev pub Walk : Graph → ℕ → List ℕ → Type 0
Walk g v [] = Unit {0}
Walk g v (w ∷ rest) = Edge g v w × Walk g w rest

-- 1 for a marked node
abbrev pub mark : Bool → ℕ
mark true = 1
mark false = 0

-- how many nodes of a walk are marked, v itself counted
abbrev pub marks : Graph → ℕ → List ℕ → ℕ
marks g v [] = mark (g.marked v)
marks g v (w ∷ rest) = mark (g.marked v) + marks g w rest

-- m is the greatest number of marked nodes on a walk from v
pub record Measure (g : Graph) (v m : ℕ) : Type 0 where
  pub walk : List ℕ
  pub goes : Walk g v walk
  pub met : marks g v walk ≡ m
  pub most : (others : List ℕ) → Walk g v others → marks g v others ≤ m
