-- Records that meet the rules: those of measures, and those of a marked lasso.
use Rattle.std.proofs.Common.{◌≡◌, ℕ, ◌<◌, true, List, ◌∷◌, length, refl, sym, subst, arith}
use Rattle.graph.specs.Graphs.{Graph, Bounded}
use Rattle.graph.specs.Walks.{Edge, begin, go, mark, Measure}
use Rattle.graph.specs.Witnesses.{MarkedLasso}
use Rattle.graph.proofs.Paths.{measure_path, path_edge, reach_node}
use Rattle.slip.specs.declared.kinds.BreakRule.TheVariants as breaks
use Rattle.slip.specs.declared.kinds.KeepRule.{KeepRule}
use Rattle.slip.specs.declared.kinds.KeepRule.TheVariants as keeps
use Rattle.slip.specs.declared.kinds.Kind.TheVariants.{Keep, Break}
use Rattle.slip.specs.declared.kinds.BreakRule.{BreakRule}
use Rattle.slip.specs.declared.kinds.Rule.TheVariants as of
use Rattle.records.specs.declared.record.Record.{Record}
use Rattle.records.specs.Tables.{node_at, letter_at, measure_at}
use Rattle.slip.specs.Rules.{KeepHolds, BreakHolds, Meets}
use Rattle.slip.specs.Measured.{Measured}

-- along an edge from a marked node measures fall
measure_falls : (g : Graph) (v w m k : ℕ) → g.marked v ≡ true → Measure g v m → Measure g w k → Edge g v w → k < m
measure_falls g v w m k marked mv mw e =
    let most = mv.most (w ∷ mw.walk) (e, mw.goes) in
    let one : mark (g.marked v) ≡ 1 = rw marked refl in
    omega (arith, most, one, mw.met)

module _ (g : Graph) (bounds : Bounded g) (rs : List Record) (m : Measured g rs) where
  measured_holds : (p : ℕ) (r : KeepRule) → KeepHolds g rs p r
  measured_holds p keeps.Node = λ h. (reach_node g bounds (node_at rs p) (m.reached p h), m.letters p h)
  measured_holds p keeps.Next =
      λ h l w e.
      let v = node_at rs p in
      let edge : Edge g v w = (l, (bounds.edges v l w e).1, e) in
      let (k, lt, is) = m.whole w (go (m.reached p h) edge) in
      let u = node_at rs k in
      let there : Edge g v u = subst (λ x. Edge g v x) (sym is) edge in (
        k,
        lt,
        is,
        measure_path g v u (measure_at rs p) (measure_at rs k) (m.measures p h) (m.measures k lt) (path_edge g there),
        λ marked. measure_falls g v u (measure_at rs p) (measure_at rs k) marked (m.measures p h) (m.measures k lt) there,
      )
  measured_holds p keeps.Starts = λ e v s. m.whole v (begin s)

  pub measured_meets : Meets g (record { kind = Keep; stem = 0; records = rs })
  measured_meets p (of.Keep r) = measured_holds p r
  measured_meets p (of.Break r) = tt

module _ (g : Graph) (bounds : Bounded g) (rs : List Record) (stem : ℕ)
    (m : MarkedLasso g (node_at rs) (letter_at rs) (length rs) stem) (zeros : (k : ℕ) → k < length rs → measure_at rs k ≡ 0) where
  lasso_holds : (p : ℕ) (r : BreakRule) → BreakHolds g rs stem p r
  lasso_holds p breaks.Node = λ h. let e = bounds.edges _ _ _ (m.steps p h) in (e.0, e.1, zeros p h)
  lasso_holds p breaks.Start = λ e. subst (λ k. g.start (node_at rs k) ≡ true) (sym e) m.starts
  lasso_holds p breaks.Next = m.steps p
  lasso_holds p breaks.Mark = λ e. m.passes

  pub lasso_meets : Meets g (record { kind = Break; stem = stem; records = rs })
  lasso_meets p (of.Keep r) = tt
  lasso_meets p (of.Break r) = lasso_holds p r
