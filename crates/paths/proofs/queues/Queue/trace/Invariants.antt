use Rattle.std.proofs.Common.{ℕ, ◌+◌, ◌<◌, ◌≤◌}
use Rattle.graph.specs.Graphs.{Graph}
use Rattle.records.specs.Tables.{node_at}
use Rattle.paths.specs.Queues.{Link, IsQueued}
use Rattle.paths.proofs.Tracing.{Tracing}
use Rattle.paths.proofs.queues.Queue.trace.Given as goal

abbrev pub invariant-loop-place : goal.invariant-loop-place
invariant-loop-place l =
    (l.count + l.record.measure ≤ l.fn.last.measure) × (0 < l.fn.last.measure → 0 < l.count + l.record.measure)
    × ((g : Graph) (to : ℕ) → IsQueued g l.self.table.size l.self.table.work.now
    → Link g (node_at l.self.table.work.now) l.self.table.size l.fn.last.letter l.fn.last.measure to
    → Tracing g to l.count l.record l.self.table.size l.self.table.work.now l.initial.table l.table)

abbrev pub decreases-loop-place : goal.decreases-loop-place
decreases-loop-place l = l.record.measure
