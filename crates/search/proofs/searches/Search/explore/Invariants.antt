use Rattle.records.specs.Tables.{SameTable}
use Rattle.search.specs.Progress.{progress}
use Rattle.graph.specs.Implicit.{graph_of}
use Rattle.search.specs.Searches.{Going, Keeps, ahead}
use Rattle.search.proofs.searches.Search.explore.Given as goal

abbrev pub invariant-loop-self : goal.invariant-loop-self
invariant-loop-self g l =
    SameTable l.initial.self.table.work l.self.table.work × Going (graph_of g.M.Map.graph l.graph) (progress l.self) l.self.table.work.now
    × Keeps l.initial.self.table.size l.initial.self.table.top l.initial.self.table.work.now l.self.table.size l.self.table.top l.self.table.work.now

abbrev pub decreases-loop-self : goal.decreases-loop-self
decreases-loop-self g l = ahead (progress l.self)
