use Rattle.std.proofs.Common.{ℕ, ◌+◌, ◌<◌, ◌≤◌, set, sym, subst, arith}
use Rattle.graph.specs.Graphs.{Graph}
use Rattle.records.specs.declared.record.Record.{Record}
use Rattle.records.specs.Tables.{node_at, measure_at}
use Rattle.paths.specs.Queues.{Link, IsQueued}
use Rattle.paths.proofs.Tracing.{Tracing, tracing_begin, tracing_more, traced}
use Rattle.paths.proofs.queues.Queue.trace.Goals as goal

pub loop-place-init : goal.loop-place-init
loop-place-init c =
    let s = c.args.self.now in
    (omega arith, λ some. omega arith, λ g to q link. tracing_begin g to c.args.last s.table.size s.table.work.now c.args.table.now link)

pub loop-place-preserved : goal.loop-place-preserved
loop-place-preserved c =
    let s = c.args.self.now in
    let l = c.loop-place in
    let place = c.in-Some.place in
    let (low, some, tracing) = l.invariant in
    let less : measure_at s.table.work.now place ≤ place = c.requires.falls place (omega (arith, c.in-Some.ensures, low, c.requires.last)) in
    subst
    (λ (r : Record).
    (l.count + 1 + r.measure ≤ c.args.last.measure) × (0 < c.args.last.measure → 0 < l.count + 1 + r.measure)
    × ((g : Graph) (to : ℕ) → IsQueued g s.table.size s.table.work.now
    → Link g (node_at s.table.work.now) s.table.size c.args.last.letter c.args.last.measure to
    → Tracing g to (l.count + 1) r s.table.size s.table.work.now c.args.table.now (set l.table l.count c.step.result)))
    (sym c.record-record.ensures) (
      omega (arith, c.in-Some.ensures, low, less),
      λ any. omega arith,
      λ g to q link. tracing_more g to l.count place l.record s.table.size s.table.work.now c.args.table.now l.table q c.in-Some.ensures
          (omega (arith, c.in-Some.ensures, low, c.requires.last))
          (omega (arith, c.in-Some.ensures, low, c.requires.last, c.requires.room, l.auto.table))
          (tracing g to q link) c.step.result c.step.ensures,
    )

pub returns-clause-traced : goal.returns-clause-traced
returns-clause-traced c g to q link =
    let s = c.args.self.now in
    let l = c.loop-place in
    traced g to l.count l.record s.table.size s.table.work.now c.args.table.now l.table c.in_default.ensures (l.invariant.2 g to q link)
