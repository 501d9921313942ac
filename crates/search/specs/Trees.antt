-- What holds while a search goes on; a reader of the promise can pass over it. The table has n records. Those below s
-- are the stack, in the order in which their nodes were found; those from top on are done. A place on the stack is
-- open if it is the current one, or has letters left to look at.
use Rattle.std.specs.Prelude.{◌≡◌, ℕ, zero, suc, ◌-◌, ◌<◌, ◌≤◌, true, ◌⊎◌, Some, None, Option}
use Rattle.graph.specs.Graphs.{Graph}
use Rattle.graph.specs.Walks.{Edge, Reach, Path, Recurring, Measure}
use Rattle.records.specs.Tables.{At}

-- place i is in use
abbrev pub Used : ℕ → ℕ → ℕ → ℕ → Type 0
Used s top n i = (i < n) × ((i < s) ⊎ (top ≤ i))

-- an edge from v to w was looked at, where letters below l were, and at l the nodes below x
abbrev pub Upto : Graph → ℕ → ℕ → ℕ → ℕ → Type 0
Upto g v l x w = (k : ℕ) × (k < g.letters) × (g.edge v k w ≡ true) × ((k < l) ⊎ ((k ≡ l) × (w < x)))

abbrev pub Open : Graph → ℕ → (ℕ → ℕ) → ℕ → Type 0
Open g cur letter u = (u ≡ cur) ⊎ (letter u < g.letters)

-- p is the nearest place below u with letters left
pub record Under (g : Graph) (letter : ℕ → ℕ) (p u : ℕ) : Type 0 where
  pub below : p < u
  pub left : letter p < g.letters
  pub between : (k : ℕ) → p < k → k < u → g.letters ≤ letter k

-- the places in use hold different nodes, each reachable
pub record Held (g : Graph) (s top n : ℕ) (node : ℕ → ℕ) : Type 0 where
  pub stack : s ≤ top
  pub table : top ≤ n
  pub apart : (i j : ℕ) → Used s top n i → Used s top n j → node i ≡ node j → i ≡ j
  pub reached : (i : ℕ) → Used s top n i → Reach g (node i)

abbrev pub DoneTold : Graph → ℕ → ℕ → (ℕ → ℕ) → (ℕ → ℕ) → Option ℕ → Type 0
DoneTold g top n node measure None = (i : ℕ) → top ≤ i → i < n → Measure g (node i) (measure i)
DoneTold g top n node measure (Some v) = Recurring g v

-- the done part: its edges stay in it, its measures are small enough to be counted on, and they are right unless a node was
-- found on a marked cycle
pub record Done (g : Graph) (top n : ℕ) (node measure : ℕ → ℕ) (found : Option ℕ) : Type 0 where
  pub closed : (i w : ℕ) → top ≤ i → i < n → Edge g (node i) w → At node top n w
  pub small : (i : ℕ) → top ≤ i → i < n → measure i ≤ n - top
  pub told : DoneTold g top n node measure found

-- The stack. `low` is the low link, `up` the parent of an open place, `at` the node at which an open place goes on.
pub record Tree (g : Graph) (s top n cur : ℕ) (node letter low up at : ℕ → ℕ) : Type 0 where
  pub inside : cur < s
  -- an open place leads to all above it
  pub down : (a u : ℕ) → Open g cur letter a → a ≤ u → u < s → Path g (node a) (node u)
  -- a place leads to its low link, which is not above it
  pub back : (u : ℕ) → u < s → (low u ≤ u) × Path g (node u) (node (low u))
  -- and is below it unless the place is open
  pub shut : (u : ℕ) → u < s → (Open g cur letter u → ⊥) → low u < u
  pub last : (u : ℕ) → cur < u → u < s → g.letters ≤ letter u
  -- if no open place from an open c on has a low link below c, then no place there has, and no edge that was looked at goes below c
  pub cut :
      (c : ℕ) → Open g cur letter c → c < s
      → ((a : ℕ) → c ≤ a → a < s → Open g cur letter a → c ≤ low a)
      → (u : ℕ) → c ≤ u → u < s
      → (c ≤ low u) × ((w : ℕ) → Upto g (node u) (letter u) (at u) w → At node top n w ⊎ At node c s w)
  -- an open place's parent is the nearest place below with letters left, and goes on behind the place's node
  pub under : (u : ℕ) → Open g cur letter u → zero < u → u < s → Under g letter (up u) u × (at (up u) ≡ suc (node u))

-- an edge leads to w from a place from a on and below b
abbrev pub Follows : Graph → (ℕ → ℕ) → ℕ → ℕ → ℕ → Type 0
Follows g node a b w = (u : ℕ) × (a ≤ u) × (u < b) × Edge g (node u) w

-- m is the greatest measure of a done node of which P holds, or 0 where there is none
pub record Heavy (P : ℕ → Type 0) (top n : ℕ) (node measure : ℕ → ℕ) (m : ℕ) : Type 0 where
  pub most : (w j : ℕ) → P w → top ≤ j → j < n → node j ≡ w → measure j ≤ m
  pub met : (m ≡ 0) ⊎ ((w : ℕ) × (j : ℕ) × P w × (top ≤ j) × (j < n) × (node j ≡ w) × (measure j ≡ m))
