use Rattle.std.proofs.Common.{sym, subst, arith}
use Rattle.graph.specs.Implicit.{graph_of}
use Rattle.search.specs.Progress.{progress}
use Rattle.search.specs.Surveys.{Collected, Told}
use Rattle.search.proofs.Visiting.{collected, told, room}
use Rattle.search.proofs.searches.Search.collect.Goals as goal

pub returns-clause-collected : goal.returns-clause-collected
returns-clause-collected g c =
    let m = graph_of g.M.Map.graph c.args.graph.now in
    let q = progress c.sweep.new.self in
    let mid = c.sweep.new.self.table.work.now in
    let work = c.settle.new.self.work.now in
    let settled = c.settle.ensures.settled in
    let len = c.settle.ensures.same_table.len in
    let is = c.settle.ensures.count in
    let swept = c.in_ok-sweep.ensures.swept in
    record {
      allowed = record { some_records = omega (arith, len, c.sweep.ensures.same_table.len, c.requires.some); few_records = omega (arith, len, c.sweep.new.self.few) };
      collected = subst (λ n. Collected m n work) (sym is) (collected m q mid work len swept settled);
      told =
          subst (λ n. Told m n work q.found) (sym is) (told m q mid work len swept settled);
      room = room m q mid work len swept settled;
    }
