use Rattle.std.proofs.Common.{◌+◌, length}
use Rattle.graph.specs.Implicit.{graph_of}
use Rattle.records.specs.Tables.{node_at, measure_at}
use Rattle.search.specs.Trees.{Heavy, Follows}
use Rattle.search.proofs.searches.Search.weigh.Given as goal

abbrev pub invariant-loop-record : goal.invariant-loop-record
invariant-loop-record g l =
    Heavy (Follows (graph_of g.M.Map.graph l.graph) (node_at l.self.table.work.now) l.self.cur (l.self.cur + l.record-index)) l.self.table.top (length l.self.table.work.now) (node_at l.self.table.work.now) (measure_at l.self.table.work.now) l.best
