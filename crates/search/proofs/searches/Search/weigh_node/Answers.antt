use Rattle.graph.specs.Implicit.{graph_of}
use Rattle.search.proofs.Weighing.{heavy_letter}
use Rattle.search.proofs.searches.Search.weigh_node.Goals as goal

pub loop-letter-preserved : goal.loop-letter-preserved
loop-letter-preserved g c =
    let s = c.args.self.now in
    heavy_letter (graph_of g.M.Map.graph c.args.graph.now) c.args.node c.loop-letter.letter s.table.top s.table.work.now
    c.loop-letter.best c.weigh_letter.result c.max-best.result c.loop-letter.invariant c.weigh_letter.ensures c.max-best.ensures
