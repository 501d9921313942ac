use Rattle.std.proofs.Common.{◌≡◌, ◌+◌, ◌-◌, ◌<◌, length, drop, ap, ◌∙◌, subst, arith, length-drop}
use Rattle.std.proofs.lemmas.List.{length-take-le}
use Rattle.graph.specs.Walks.{Edge}
use Rattle.graph.specs.Implicit.{graph_of}
use Rattle.records.specs.Tables.{node_at, measure_at}
use Rattle.search.specs.Trees.{Heavy, Follows}
use Rattle.records.proofs.Parts.{get_or-part}
use Rattle.search.proofs.Weighing.{heavy_place}
use Rattle.search.proofs.searches.Search.weigh.Goals as goal

pub loop-record-preserved : goal.loop-record-preserved
loop-record-preserved g c =
    let m = graph_of g.M.Map.graph c.args.graph.now in
    let s = c.args.self.now in
    let i = c.loop-record.record-index in
    let part = c.stack_from-record-items.ensures in
    let inside : i < s.table.size - s.cur = omega (arith, ap length part, length-take-le (s.table.size - s.cur) (drop s.cur s.table.work.now) (omega (arith, length-drop s.cur s.table.work.now, s.table.stack, s.table.table)), c.loop-record-test.true) in
    let next : s.cur + i + 1 ≡ s.cur + (i + 1) = omega arith in
    subst (λ j. Heavy (Follows m (node_at s.table.work.now) s.cur j) s.table.top (length s.table.work.now) (node_at s.table.work.now) (measure_at s.table.work.now) c.max-best.result) next
    (heavy_place m s.cur (s.cur + i) s.table.top s.table.work.now c.loop-record.best c.weigh_node.result c.max-best.result (omega arith) c.loop-record.invariant
    (subst (λ v. Heavy (Edge m v) s.table.top (length s.table.work.now) (node_at s.table.work.now) (measure_at s.table.work.now) c.weigh_node.result)
    (ap (λ x. node_at x i) part ∙ ap (λ r. r.node) (get_or-part s.cur s.table.size i s.table.work.now inside)) c.weigh_node.ensures) c.max-best.ensures)
