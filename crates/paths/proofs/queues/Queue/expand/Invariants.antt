use Rattle.records.specs.Tables.{SameTable}
use Rattle.graph.specs.Implicit.{graph_of}
use Rattle.paths.specs.Queues.{graph_for, Taken}
use Rattle.graph.specs.Walks.{ByLetters}
use Rattle.paths.proofs.queues.Queue.expand.Given as goal

-- the nodes that edges with the letters below lead to are taken
abbrev pub invariant-loop-letter : goal.invariant-loop-letter
invariant-loop-letter g l =
    SameTable l.initial.self.table.work l.self.table.work
    × Taken (graph_for g.M.Map.graph l.query) l.query.to (ByLetters (graph_of g.M.Map.graph l.query.graph) l.node l.letter)
    l.initial.self.table.size l.initial.self.table.work.now l.self.table.size l.self.table.work.now
