use Rattle.std.proofs.Common.{◌∙◌, Some}
use Rattle.graph.specs.declared.implicit.Nodes.TheVariants.{Successors}
use Rattle.graph.specs.Implicit.{graph_of}
use Rattle.graph.proofs.Ascending.{next_of}
use Rattle.search.proofs.Weighing.{heavy_step}
use Rattle.search.proofs.searches.Search.weigh_letter.Goals as goal

pub loop-next-preserved : goal.loop-next-preserved
loop-next-preserved g c =
    let s = c.args.self.now in
    let (graph, nodes, heavy) = c.loop-next.invariant in
    let rises = c.in-Some.ensures.steps in
    let gives =
    next_of g.M.Map.graph c.loop-next.next-iterator c.next.new.self (Some c.in-Some.next) c.args.graph.now (Successors c.args.node c.args.letter) graph nodes rises in (
      rises.same_graph ∙ graph,
      rises.same_nodes ∙ nodes,
      heavy_step (graph_of g.M.Map.graph c.args.graph.now) c.args.node c.args.letter s.table.top s.table.work.now
          c.loop-next.next-iterator.from c.next.new.self.from c.in-Some.next c.loop-next.best c.measure_of.result c.max-best.result
          c.requires gives heavy c.measure_of.ensures c.max-best.ensures,
    )
