use Rattle.std.proofs.Common.{refl, arith}
use Rattle.std.proofs.lemmas.Bool.{both_ways}
use Rattle.graph.specs.Implicit.{graph_of}
use Rattle.search.proofs.Assessing.{weight_fits, assess_plain, assess_lone, assess_cycle}
use Rattle.search.proofs.searches.Search.assess_new.Goals as goal

pub returns-in_default : goal.returns-in_default
returns-in_default g c =
    let m = graph_of g.M.Map.graph c.args.graph.now in
    let s = c.args.self.now in
    record {
      fits = omega (arith, weight_fits m _ _ _ _ c.requires _ c.weigh.ensures);
      told = (refl, assess_plain m _ _ _ _ c.requires _ c.weigh.ensures c.in_default.ensures);
    }

pub returns-then-is_cyclic : goal.returns-then-is_cyclic
returns-then-is_cyclic g c =
    let m = graph_of g.M.Map.graph c.args.graph.now in
    record {
      fits = omega arith;
      told = assess_cycle m _ _ _ _ c.requires _ c.in-Some.ensures (c.is_cyclic.ensures.0 c.if-is_cyclic.true);
    }

pub returns : goal.returns
returns g c =
    let m = graph_of g.M.Map.graph c.args.graph.now in
    record {
      fits = omega (arith, weight_fits m _ _ _ _ c.requires _ c.weigh-2.ensures);
      told = (
        refl,
        assess_lone m _ _ _ _ c.requires _ c.weigh-2.ensures _ c.in-Some.ensures
            (λ e. both_ways _ c.if-is_cyclic.false (c.is_cyclic.ensures.1 e)),
      );
    }

pub overflow_add-result : goal.overflow_add-result
overflow_add-result g c =
    let m = graph_of g.M.Map.graph c.args.graph.now in
    omega (arith, weight_fits m _ _ _ _ c.requires _ c.weigh-2.ensures, c.args.self.now.few)
