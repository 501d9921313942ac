use Rattle.std.proofs.Common.{◌≡◌, ◌<◌, true, Some, None, ap, ◌∙◌, subst, arith, rules}
use Rattle.graph.specs.declared.implicit.Rising.{Rising}
use Rattle.records.specs.declared.record.Record.{Record}
use Rattle.graph.specs.Implicit.{graph_of, among}
use Rattle.graph.specs.Ascending.{Passed}
use Rattle.paths.specs.Queues.{graph_for, Halted}
use Rattle.paths.proofs.Queueing.{no_room, taken_none, taken_next, taken_all, leads_more}
use Rattle.graph.proofs.Ascending.{next_of}
use Rattle.paths.proofs.queues.Queue.add_all.Goals as goal

pub loop-node-init : goal.loop-node-init
loop-node-init g c =
    let s = c.args.self.now in
    let i = c.into_iter-node-iterator in
    let r = c.rising-node-items.ensures in
    let query = c.args.query.now in
    let from = ap (λ (x : Rising _). x.from) i.ensures.into_iter_gives ∙ r.from in
    let P = among (graph_of g.M.Map.graph query.graph) c.args.nodes in (
      ap (λ (x : Rising _). x.graph) i.ensures.into_iter_gives ∙ r.graph,
      ap (λ (x : Rising _). x.nodes) i.ensures.into_iter_gives ∙ r.nodes,
      search rules,
      taken_none (graph_for g.M.Map.graph query) query.to (λ v. (P v ≡ true) × Passed i.result.from v) s.table.size s.table.work.now c.requires.queued
          (λ v (is, passed). let below : v < 0 = subst (λ f. Passed f v) from passed in omega arith),
    )

pub loop-node-preserved : goal.loop-node-preserved
loop-node-preserved g c =
    let s = c.args.self.now in
    let query = c.args.query.now in
    let mid = c.loop-node.self in
    let work = c.add.new.self in
    let (graph, nodes, same, taken) = c.loop-node.invariant in
    let rises = c.in-Some.ensures.steps in
    let gives =
    next_of g.M.Map.graph c.loop-node.node-iterator c.next.new.self (Some c.in-Some.node) query.graph c.args.nodes graph nodes rises in
    let table = c.in_ok-add.ensures.same_table in (
      rises.same_graph ∙ graph,
      rises.same_nodes ∙ nodes,
      record { reference = table.reference ∙ same.reference; len = table.len ∙ same.len },
      taken_next (graph_for g.M.Map.graph query) query.to (among (graph_of g.M.Map.graph query.graph) c.args.nodes) c.args.by
          c.loop-node.node-iterator.from c.next.new.self.from c.in-Some.node s.table.size s.table.work.now mid.table.size mid.table.work.now work.table.size work.table.work.now
          c.requires.leads gives c.if-node-query.false taken c.in_ok-add.ensures.added,
    )

pub returns-then-node-query-clause-added : goal.returns-then-node-query-clause-added
returns-then-node-query-clause-added g c =
    let s = c.args.self.now in
    let query = c.args.query.now in
    let mid = c.loop-node.self in
    let P = among (graph_of g.M.Map.graph query.graph) c.args.nodes in
    let (graph, nodes, same, taken) = c.loop-node.invariant in
    let gives =
    next_of g.M.Map.graph c.loop-node.node-iterator c.next.new.self (Some c.in-Some.node) query.graph c.args.nodes graph nodes c.in-Some.ensures.steps in
    let (reached, link) = leads_more (graph_for g.M.Map.graph query) P c.args.by s.table.size s.table.work.now mid.table.size mid.table.work.now c.requires.leads taken.longer
    query.to (subst (λ x. P x ≡ true) c.if-node-query.true gives.0) in
    (taken.queued, link, reached, c.requires.leaves)

pub returns-in_err-add-clause-added : goal.returns-in_err-add-clause-added
returns-in_err-add-clause-added g c =
    let s = c.args.self.now in
    let query = c.args.query.now in
    let mid = c.loop-node.self in
    let work = c.add.new.self in
    let G = graph_for g.M.Map.graph query in
    let P = among (graph_of g.M.Map.graph query.graph) c.args.nodes in
    let (graph, nodes, same, taken) = c.loop-node.invariant in
    let gives =
    next_of g.M.Map.graph c.loop-node.node-iterator c.next.new.self (Some c.in-Some.node) query.graph c.args.nodes graph nodes c.in-Some.ensures.steps in
    let r : Record = record { node = c.in-Some.node; letter = c.args.by.letter; measure = c.args.by.measure } in
    let halted : Halted G query.from query.to work.table.size work.table.work.now c.in_err-add.field-0.0 =
    no_room G query.from query.to r mid.table.size mid.table.work.now work.table.size work.table.work.now c.in_err-add.field-0.0 taken.queued
    (leads_more G P c.args.by s.table.size s.table.work.now mid.table.size mid.table.work.now c.requires.leads taken.longer c.in-Some.node gives.0).0
    c.in_err-add.ensures.same_table.len c.in_err-add.ensures.added in
    search rules

pub returns-clause-added : goal.returns-clause-added
returns-clause-added g c =
    let s = c.args.self.now in
    let query = c.args.query.now in
    let mid = c.loop-node.self in
    let P = among (graph_of g.M.Map.graph query.graph) c.args.nodes in
    let (graph, nodes, same, taken) = c.loop-node.invariant in
    let gives =
    next_of g.M.Map.graph c.loop-node.node-iterator c.next.new.self None query.graph c.args.nodes graph nodes c.in-None.ensures.steps in
    taken_all (graph_for g.M.Map.graph query) query.to (λ v. (P v ≡ true) × Passed c.loop-node.node-iterator.from v) (λ v. P v ≡ true)
    s.table.size s.table.work.now mid.table.size mid.table.work.now
    taken (λ v is. (is, gives v is))
