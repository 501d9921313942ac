use Rattle.std.proofs.Common.{◌≡◌, ℕ, true, refl, sym, subst, inl}
use Rattle.std.proofs.lemmas.Bool.{eq-eqb, eqb-true}
use Rattle.graph.specs.Walks.{begin}
use Rattle.records.specs.declared.record.Record.{Record}
use Rattle.graph.specs.Implicit.{graph_of}
use Rattle.paths.specs.Queues.{begins, graph_for, Added, NoRoom, Taken, Begun, Halted}
use Rattle.paths.proofs.Queueing.{grown, no_room, taken_all, begun_starts, begun_node, queued_none, match_both}
use Rattle.paths.proofs.queues.Queue.begin.Goals as goal

pub add_all-requires-clause-leads : goal.add_all-requires-clause-leads
add_all-requires-clause-leads g c v is =
    let start : (graph_for g.M.Map.graph c.args.query.now).start v ≡ true =
    subst (λ f. begins (graph_of g.M.Map.graph c.args.query.now.graph) f v ≡ true) (sym c.in-Starts.is) is in
    (begin start, inl (c.default.ensures.1.1, start))

pub returns-in-Starts-clause-begun : goal.returns-in-Starts-clause-begun
returns-in-Starts-clause-begun g c =
    let query = c.args.query.now in
    let s = c.args.self.now in
    let work = c.add_all.new.self in
    let G = graph_for g.M.Map.graph query in
    let P : ℕ → Type 0 = λ v. (graph_of g.M.Map.graph query.graph).start v ≡ true in
    match_both (Taken G query.to P s.table.size s.table.work.now work.table.size work.table.work.now) (Begun G query.from query.to work.table.size work.table.work.now)
    (Halted G query.from query.to work.table.size work.table.work.now) (Halted G query.from query.to work.table.size work.table.work.now) c.add_all.result
    (λ taken. begun_starts G query.from query.to s.table.size s.table.work.now work.table.size work.table.work.now
    (taken_all G query.to P (λ v. G.start v ≡ true) s.table.size s.table.work.now work.table.size work.table.work.now taken
    (λ v h. subst (λ f. begins (graph_of g.M.Map.graph query.graph) f v ≡ true) c.in-Starts.is h)))
    (λ e h. h) c.add_all.ensures.added

pub returns-in-Node-clause-begun : goal.returns-in-Node-clause-begun
returns-in-Node-clause-begun g c =
    let query = c.args.query.now in
    let s = c.args.self.now in
    let work = c.add.new.self in
    let u = c.in-Node.node in
    let d = c.default-in-Node in
    let G = graph_for g.M.Map.graph query in
    let r : Record = record { node = u; letter = d.result.letter; measure = d.result.measure } in
    let start : G.start u ≡ true = subst (λ f. begins (graph_of g.M.Map.graph query.graph) f u ≡ true) (sym c.in-Node.is) (eq-eqb u u refl) in
    let q = queued_none G s.table.size s.table.work.now c.requires.empty in
    match_both (Added r s.table.size s.table.work.now work.table.size work.table.work.now) (Begun G query.from query.to work.table.size work.table.work.now)
    (NoRoom r s.table.size s.table.work.now) (Halted G query.from query.to work.table.size work.table.work.now) c.add.result
    (λ added. begun_node G query.from query.to r s.table.size s.table.work.now work.table.size work.table.work.now c.in-Node.is
    (λ v h. eqb-true v u (subst (λ f. begins (graph_of g.M.Map.graph query.graph) f v ≡ true) c.in-Node.is h))
    (grown G r s.table.size s.table.work.now work.table.size work.table.work.now q (begin start) (inl (d.ensures.1.1, start)) added))
    (λ stop none. no_room G query.from query.to r s.table.size s.table.work.now work.table.size work.table.work.now stop q (begin start) c.add.ensures.same_table.len none)
    c.add.ensures.added
