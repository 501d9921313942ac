use Rattle.std.proofs.Common.{◌≡◌, ℕ, ◌<◌, true}
use Rattle.graph.specs.Implicit.{graph_of}
use Rattle.slip.specs.Asked.{Held}
use Rattle.slip.proofs.inspection.Inspection.are_successors_held.Given as goal

abbrev pub invariant-loop-letter : goal.invariant-loop-letter
invariant-loop-letter g l =
    (k : ℕ) → k < l.letter → (v : ℕ) → (graph_of g.M.Map.graph l.self.graph).edge l.node k v ≡ true
    → Held l.self.slip.records.now l.limit v
