use Rattle.std.proofs.Common.{length}
use Rattle.graph.specs.Implicit.{graph_of}
use Rattle.records.specs.Tables.{node_at, measure_at}
use Rattle.search.specs.Trees.{Heavy}
use Rattle.graph.specs.Walks.{ByLetters}
use Rattle.search.proofs.searches.Search.weigh_node.Given as goal

abbrev pub invariant-loop-letter : goal.invariant-loop-letter
invariant-loop-letter g l =
    Heavy (ByLetters (graph_of g.M.Map.graph l.graph) l.node l.letter) l.self.table.top (length l.self.table.work.now) (node_at l.self.table.work.now) (measure_at l.self.table.work.now) l.best
