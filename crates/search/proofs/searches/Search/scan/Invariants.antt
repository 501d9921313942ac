use Rattle.records.specs.Tables.{SameTable, letter_at}
use Rattle.search.specs.Progress.{progress}
use Rattle.search.specs.Changes.{Quiet}
use Rattle.graph.specs.Implicit.{graph_of}
use Rattle.search.specs.Searches.{Searching, IsFurther, left}
use Rattle.search.proofs.searches.Search.scan.Given as goal

abbrev pub invariant-loop-self : goal.invariant-loop-self
invariant-loop-self g l =
    SameTable l.initial.self.table.work l.self.table.work × IsFurther (progress l.initial.self) (progress l.self)
    × Searching (graph_of g.M.Map.graph l.graph) l.self.table.size l.self.table.top l.self.cur l.self.from l.self.table.work.now
    × Quiet l.self.cur l.initial.self.table.work.now l.self.table.work.now

abbrev pub decreases-loop-self : goal.decreases-loop-self
decreases-loop-self g l = left (graph_of g.M.Map.graph l.graph) (letter_at l.self.table.work.now l.self.cur) l.self.from
