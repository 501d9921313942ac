use Rattle.std.proofs.Common.{◌∙◌, arith}
use Rattle.records.specs.Tables.{node_at}
use Rattle.paths.specs.Queues.{graph_for}
use Rattle.graph.specs.Walks.{Edge}
use Rattle.paths.proofs.Queueing.{begun_more, closed_more, missed}
use Rattle.paths.proofs.queues.Queue.search.Goals as goal

pub loop-place-preserved : goal.loop-place-preserved
loop-place-preserved g c =
    let query = c.args.query.now in
    let mid = c.loop-place.self in
    let work = c.expand.new.self in
    let G = graph_for g.M.Map.graph query in
    let (same, low, begun, closed) = c.loop-place.invariant in
    let table = c.in_ok-expand.ensures.same_table in
    let taken = c.in_ok-expand.ensures.added in
    let P = Edge G (node_at mid.table.work.now c.loop-place.place) in (
      record { reference = table.reference ∙ same.reference; len = table.len ∙ same.len },
      omega (arith, taken.longer.more, c.loop-place-test.true),
      begun_more G query.from query.to P mid.table.size mid.table.work.now work.table.size work.table.work.now begun taken,
      closed_more G query.to c.loop-place.place mid.table.size mid.table.work.now work.table.size work.table.work.now (omega arith) closed taken,
    )

pub returns-clause-searched : goal.returns-clause-searched
returns-clause-searched g c =
    let query = c.args.query.now in
    let mid = c.loop-place.self in
    let (same, low, begun, closed) = c.loop-place.invariant in
    missed (graph_for g.M.Map.graph query) query.from query.to mid.table.size mid.table.work.now begun
    (λ i w h e. closed i w (omega (arith, c.loop-place-test.false)) e)
