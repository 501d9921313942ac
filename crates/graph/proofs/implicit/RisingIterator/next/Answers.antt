use Rattle.std.proofs.Common.{refl, arith}
use Rattle.graph.specs.Implicit.{graph_of, among}
use Rattle.graph.proofs.Ascending.{among_below, next_found}
use Rattle.graph.proofs.implicit.RisingIterator.next.Goals as goal

pub returns-clause-steps : goal.returns-clause-steps
returns-clause-steps g c =
    let s = c.args.self.now in
    let m = graph_of g.M.Map.graph s.graph in
    let bounds = g.M.Map.bounds s.graph.map.now s.graph.word.elements.now s.graph.word.stem in
    record {
      same_graph = refl;
      same_nodes = refl;
      gives =
          rw c.in_ok-from.was
          (next_found (among m s.nodes) c.in_ok-from.from c.in_ok-next.next (among_below m bounds s.nodes)
          c.in_ok-next.ensures c.checked_add-self.result c.checked_add-self.ensures);
      behind = rw c.in_ok-from.was (λ passed. omega (arith, passed, c.in_ok-next.ensures.0));
      stays = tt;
    }
