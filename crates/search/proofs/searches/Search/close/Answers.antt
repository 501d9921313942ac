use Rattle.std.proofs.Common.{◌≡◌, ◌/◌, ◌<◌, sym, ap, ◌∙◌, subst, arith}
use Rattle.search.specs.Progress.{progress}
use Rattle.graph.specs.Implicit.{graph_of}
use Rattle.records.specs.declared.record.Record.{Record}
use Rattle.records.specs.Tables.{node_at, letter_at}
use Rattle.search.specs.Searches.{GoesOn}
use Rattle.search.proofs.Retiring.{step_emptied, step_retired}
use Rattle.search.proofs.searches.Search.close.Goals as goal

pub go_on-requires : goal.go_on-requires
go_on-requires g c =
    let q = c.requires.here.going in
    let word = c.args.graph.now.word in
    let b = g.M.Map.bounds c.args.graph.now.map.now word.elements.now word.stem in
    let mid = c.retire.new.self in
    let stays : mid.cur ≡ c.args.self.now.cur = ap (λ p. p.cur) c.retire.ensures.progress in
    let parent = c.retire.ensures.retired.parent (omega (arith, stays, c.if-self-gt0.true)) in
    let up = c.parent.ensures ∙ ap (λ (r : Record). r.measure / 65536) c.record-root.ensures in
    let few : letter_at mid.table.work.now c.parent.result < 255 =
    subst (λ u. letter_at mid.table.work.now u < 255) (sym up) (omega (arith, parent, b.few_letters)) in
    (omega (arith, parent, up, c.retire.ensures.same_table.len, q.tree.inside, q.held.stack, q.held.table), few)

pub returns-then-self-gt0-clause-stepped : goal.returns-then-self-gt0-clause-stepped
returns-then-self-gt0-clause-stepped g c =
    let q = c.requires.here.going in
    let s = c.args.self.now in
    let word = c.args.graph.now.word in
    let mid = c.retire.new.self in
    let work = c.go_on.new.self in
    let stays : mid.cur ≡ s.cur = ap (λ p. p.cur) c.retire.ensures.progress in
    let up = c.parent.ensures ∙ ap (λ (r : Record). r.measure / 65536) c.record-root.ensures in
    let goes : GoesOn c.parent.result (node_at s.table.work.now s.cur) (progress mid) mid.table.work.now work.table.work.now (progress work) =
    subst (λ (r : Record). GoesOn c.parent.result r.node (progress mid) mid.table.work.now work.table.work.now (progress work)) c.record-root.ensures c.go_on.ensures.goes_on in
    step_retired (graph_of g.M.Map.graph c.args.graph.now) (progress s) (progress mid) (progress work) c.parent.result s.table.work.now mid.table.work.now work.table.work.now
    (g.M.Map.bounds c.args.graph.now.map.now word.elements.now word.stem) (omega (arith, stays, c.if-self-gt0.true)) q.tree.inside q.held.stack up
    c.retire.ensures.progress c.retire.ensures.retired c.go_on.ensures.same_table.len goes

pub returns-else-self-gt0-clause-stepped : goal.returns-else-self-gt0-clause-stepped
returns-else-self-gt0-clause-stepped g c =
    let q = c.requires.here.going in
    let s = c.args.self.now in
    let work = c.retire.new.self in
    let stays : work.cur ≡ s.cur = ap (λ p. p.cur) c.retire.ensures.progress in
    step_emptied (graph_of g.M.Map.graph c.args.graph.now) (progress s) (progress work) s.table.work.now work.table.work.now
    (omega (arith, stays, c.if-self-gt0.false)) (omega (arith, q.tree.inside)) q.held.stack c.retire.ensures.progress c.retire.ensures.retired
