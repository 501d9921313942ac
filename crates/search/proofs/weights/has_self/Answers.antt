use Rattle.std.proofs.Common.{◌≡◌, ℕ, ◌<◌, true, Decides, refl, subst, arith, rules, tests}
use Rattle.std.proofs.lemmas.Iterator.{cases_from_any, YieldsList-from_range}
use Rattle.graph.specs.Implicit.{graph_of}
use Rattle.search.proofs.Parts.{some_below}
use Rattle.search.proofs.weights.has_self.Goals as goal

pub returns : goal.returns
returns g c =
    let m = graph_of g.M.Map.graph c.args.graph.now in
    let Home : ℕ → Type 0 = λ l. m.edge c.args.node l c.args.node ≡ true in
    subst (λ n. Decides c.any.result ((l : ℕ) × (l < n) × Home l)) c.letters.ensures
    (some_below c.letters.result Home c.any.result
    (cases_from_any _ _ _ Home (λ l. Home l → ⊥) c.any.ensures.ran (YieldsList-from_range 0 c.letters.result c.letters.result refl (omega arith))
    (λ x q k. search (rules, tests)) (λ x q k. search (rules, tests))))
