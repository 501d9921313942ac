use Rattle.std.proofs.Common.{◌<◌, ◌+◌, sym, refl, ap, ◌∙◌, subst, arith}
use Rattle.graph.specs.Walks.{Edge, ByLetters}
use Rattle.records.specs.declared.record.Record.{Record}
use Rattle.graph.specs.Implicit.{graph_of}
use Rattle.paths.specs.Queues.{graph_for, Taken}
use Rattle.paths.proofs.Queueing.{leads_letter, taken_letter, taken_all}
use Rattle.paths.proofs.queues.Queue.expand.Goals as goal

pub add_all-requires-clause-leads : goal.add_all-requires-clause-leads
add_all-requires-clause-leads g c =
    let s = c.args.self.now in
    let mid = c.loop-letter.self in
    let taken = c.loop-letter.invariant.1 in
    let v = c.record-node.result.node in
    let by : Record = record { node = v; letter = c.loop-letter.letter; measure = c.args.place + 1 } in
    let few : c.loop-letter.letter < (graph_of g.M.Map.graph c.args.query.now.graph).letters =
    omega (arith, c.letters-letter-end.ensures, c.loop-letter-test.true) in
    leads_letter (graph_for g.M.Map.graph c.args.query.now) c.args.place v c.loop-letter.letter by mid.table.size mid.table.work.now taken.queued
    (omega (arith, c.requires.inside, taken.longer.more)) (taken.longer.same c.args.place c.requires.inside ∙ sym (ap (λ (r : Record). r.node) c.record-node.ensures)) few refl (omega arith)

pub loop-letter-preserved : goal.loop-letter-preserved
loop-letter-preserved g c =
    let s = c.args.self.now in
    let query = c.args.query.now in
    let mid = c.loop-letter.self in
    let work = c.add_all.new.self in
    let (same, taken) = c.loop-letter.invariant in
    let table = c.in_ok-add_all.ensures.same_table in (
      record { reference = table.reference ∙ same.reference; len = table.len ∙ same.len },
      taken_letter (graph_for g.M.Map.graph query) query.to c.record-node.result.node c.loop-letter.letter
          s.table.size s.table.work.now mid.table.size mid.table.work.now work.table.size work.table.work.now
          taken c.in_ok-add_all.ensures.added,
    )

pub returns-clause-added : goal.returns-clause-added
returns-clause-added g c =
    let s = c.args.self.now in
    let query = c.args.query.now in
    let mid = c.loop-letter.self in
    let m = graph_of g.M.Map.graph query.graph in
    let v = c.record-node.result.node in
    subst (λ u. Taken (graph_for g.M.Map.graph query) query.to (Edge m u) s.table.size s.table.work.now mid.table.size mid.table.work.now)
    (ap (λ (r : Record). r.node) c.record-node.ensures)
    (taken_all (graph_for g.M.Map.graph query) query.to (ByLetters m v c.loop-letter.letter) (Edge m v) s.table.size s.table.work.now mid.table.size mid.table.work.now
    c.loop-letter.invariant.1 (λ w (l, few, e). (l, omega (arith, c.letters-letter-end.ensures, c.loop-letter-test.false), e)))
