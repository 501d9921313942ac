use Rattle.std.proofs.Common.{◌∙◌, Some}
use Rattle.search.specs.Progress.{progress}
use Rattle.graph.specs.declared.implicit.Nodes.TheVariants.{Starts}
use Rattle.graph.specs.Implicit.{graph_of}
use Rattle.graph.proofs.Ascending.{next_of}
use Rattle.search.proofs.Visiting.{starts_more}
use Rattle.search.proofs.searches.Search.sweep.Goals as goal

pub loop-start-preserved : goal.loop-start-preserved
loop-start-preserved g c =
    let m = graph_of g.M.Map.graph c.args.graph.now in
    let s = c.loop-start.self in
    let work = c.visit.new.self in
    let (graph, nodes, same, going, empty, done) = c.loop-start.invariant in
    let rises = c.in-Some.ensures.steps in
    let gives = next_of g.M.Map.graph c.loop-start.start-iterator c.next.new.self (Some c.in-Some.start) c.args.graph.now Starts graph nodes rises in
    let v = c.in_ok-visit.ensures.visited in
    let table = c.visit.ensures.same_table in (
      rises.same_graph ∙ graph,
      rises.same_nodes ∙ nodes,
      record { reference = table.reference ∙ same.reference; len = table.len ∙ same.len },
      v.rested.going,
      v.rested.empty,
      starts_more m (progress s) (progress work) c.loop-start.start-iterator.from c.next.new.self.from c.in-Some.start s.table.work.now work.table.work.now gives v done,
    )
