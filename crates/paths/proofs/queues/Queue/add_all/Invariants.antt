use Rattle.std.proofs.Common.{◌≡◌, true}
use Rattle.records.specs.Tables.{SameTable}
use Rattle.graph.specs.Implicit.{graph_of, among}
use Rattle.graph.specs.Ascending.{Passed}
use Rattle.paths.specs.Queues.{graph_for, Taken}
use Rattle.paths.proofs.queues.Queue.add_all.Given as goal

-- the nodes that are passed are taken
abbrev pub invariant-loop-node : goal.invariant-loop-node
invariant-loop-node g l =
    (l.node-iterator.graph ≡ l.query.graph) × (l.node-iterator.nodes ≡ l.fn.nodes)
    × SameTable l.initial.self.table.work l.self.table.work
    × Taken (graph_for g.M.Map.graph l.query) l.query.to
    (λ v. (among (graph_of g.M.Map.graph l.query.graph) l.fn.nodes v ≡ true) × Passed l.node-iterator.from v)
    l.initial.self.table.size l.initial.self.table.work.now l.self.table.size l.self.table.work.now
