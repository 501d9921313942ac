use Rattle.std.proofs.Common.{◌-◌, ◌≤◌, length}
use Rattle.records.specs.Tables.{SameTable}
use Rattle.paths.specs.Queues.{graph_for, Begun}
use Rattle.paths.proofs.Queueing.{Closed}
use Rattle.paths.proofs.queues.Queue.search.Given as goal

abbrev pub invariant-loop-place : goal.invariant-loop-place
invariant-loop-place g l =
    SameTable l.initial.self.table.work l.self.table.work × (l.place ≤ l.self.table.size)
    × Begun (graph_for g.M.Map.graph l.query) l.query.from l.query.to l.self.table.size l.self.table.work.now
    × Closed (graph_for g.M.Map.graph l.query) l.query.to l.place l.self.table.size l.self.table.work.now

abbrev pub decreases-loop-place : goal.decreases-loop-place
decreases-loop-place g l = length l.initial.self.table.work.now - l.place
