-- What shows that a graph has a marked cycle, and what shows that it has none.
use Rattle.std.specs.Prelude.{◌≡◌, ℕ, ◌<◌, ◌≤◌, true}
use Rattle.graph.specs.Graphs.{Graph}
use Rattle.lasso.specs.Positions.{after}

-- A lasso of so many nodes with a stem: it begins at a start, each node has an edge by its letter to the node after it,
-- and the loop passes a marked node.
pub record MarkedLasso (g : Graph) (node letter : ℕ → ℕ) (count stem : ℕ) : Type 0 where
  pub loops : stem < count
  pub starts : g.start (node 0) ≡ true
  pub steps : (k : ℕ) → k < count → g.edge (node k) (letter k) (node (after count stem k)) ≡ true
  pub passes : (k : ℕ) × (stem ≤ k) × (k < count) × (g.marked (node k) ≡ true)

-- So many nodes, each with a measure: among them is every start, and each node to which one of them has an edge, with a
-- measure that is not greater, and smaller where the edge leaves a marked node. A node may be there more than once.
pub record FallingMeasures (g : Graph) (node measure : ℕ → ℕ) (count : ℕ) : Type 0 where
  pub starts : (v : ℕ) → g.start v ≡ true → (i : ℕ) × (i < count) × (node i ≡ v)
  pub edges :
      (i l w : ℕ) → i < count → g.edge (node i) l w ≡ true
      → (k : ℕ) × (k < count) × (node k ≡ w) × (measure k ≤ measure i)
      × (g.marked (node i) ≡ true → measure k < measure i)
