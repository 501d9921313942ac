use Rattle.std.proofs.Common.{◌≤◌, length, ap, arith}
use Rattle.paths.specs.declared.queues.Stop.TheVariants.{Found}
use Rattle.paths.specs.Queues.{graph_for, Halted}
use Rattle.paths.proofs.Tracing.{some_left, path_written}
use Rattle.paths.proofs.lassos.write_path.Goals as goal

pub returns-in-Err-Found : goal.returns-in-Err-Found
returns-in-Err-Found g c =
    let query = c.args.query.now in
    let G = graph_for g.M.Map.graph query in
    let queue = c.search.new.self in
    let count = c.trace-count.result in
    let last = c.in-Err-Found.last in
    let halted : Halted G query.from query.to queue.table.size queue.table.work.now (Found last) =
    rw c.in-Err-Found.field-0-is at c.in-Err-Found.ensures.searched in
    let (queued, link, reached, leaves) = halted in
    let short : count ≤ length c.args.work.now =
    omega (arith, c.trace-count.ensures.fits, queue.table.stack, queue.table.table, c.in-Err-Found.ensures.same_table.len, ap length c.new-queue.ensures.table) in
    path_written G query.from query.to (length c.args.work.now) count c.args.table.now c.trace-count.new.table c.turn_round.new.table
    (c.trace-count.ensures.traced G query.to queued link) c.turn_round.ensures reached
    (λ none. leaves (some_left last.measure count c.trace-count.ensures.some none))
    short c.requires.room c.trace-count.auto.table
