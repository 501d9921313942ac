use Rattle.std.proofs.Common.{◌≡◌, length}
use Rattle.graph.specs.declared.implicit.Nodes.TheVariants.{Successors}
use Rattle.graph.specs.Implicit.{graph_of}
use Rattle.records.specs.Tables.{node_at, measure_at}
use Rattle.search.specs.Trees.{Heavy}
use Rattle.search.specs.Weights.{Below}
use Rattle.search.proofs.searches.Search.weigh_letter.Given as goal

-- what is passed is weighed
abbrev pub invariant-loop-next : goal.invariant-loop-next
invariant-loop-next g l =
    (l.next-iterator.graph ≡ l.graph) × (l.next-iterator.nodes ≡ Successors l.node l.letter)
    × Heavy (Below (graph_of g.M.Map.graph l.graph) l.node l.letter l.next-iterator.from) l.self.table.top (length l.self.table.work.now) (node_at l.self.table.work.now) (measure_at l.self.table.work.now) l.best
