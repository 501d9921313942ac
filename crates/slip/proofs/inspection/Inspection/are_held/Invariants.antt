use Rattle.std.proofs.Common.{◌≡◌, ℕ, true}
use Rattle.graph.specs.Ascending.{Passed}
use Rattle.graph.specs.Implicit.{graph_of, among}
use Rattle.slip.specs.Asked.{Held}
use Rattle.slip.proofs.inspection.Inspection.are_held.Given as goal

-- the nodes that are passed are held
abbrev pub invariant-loop-node : goal.invariant-loop-node
invariant-loop-node g l =
    (l.node-iterator.graph ≡ l.self.graph) × (l.node-iterator.nodes ≡ l.fn.nodes)
    × ((v : ℕ) → among (graph_of g.M.Map.graph l.self.graph) l.fn.nodes v ≡ true → Passed l.node-iterator.from v → Held l.self.slip.records.now l.limit v)
