-- The current place is explored and is its own low link: the stack from it on is a strongly connected component that
-- no edge leaves but to what is done.
use Rattle.std.proofs.Common.{◌≡◌, ℕ, zero, suc, ◌+◌, ◌<◌, ◌≤◌, true, ◌⊎◌, List, [], ◌∷◌, sym, refl, subst, inl, ⊎_elim, arith}
use Rattle.std.proofs.lemmas.Bool.{cases_eq}
use Rattle.graph.specs.Graphs.{Graph}
use Rattle.graph.specs.Walks.{Edge, Reach, Path, here, Recurring, Walk, mark, marks, Measure}
use Rattle.graph.proofs.Paths.{path_join, path_edge, path_first, path_before}
use Rattle.records.specs.Tables.{At}
use Rattle.search.specs.Trees.{Upto, Tree, Follows, Heavy}
use Rattle.search.proofs.Steps.{open_le}

module _ (g : Graph) (s top n cur : ℕ) (node letter low up at : ℕ → ℕ)
    (t : Tree g s top n cur node letter low up at) (explored : g.letters ≤ letter cur) (root : low cur ≡ cur) where
  all_seen : (u w : ℕ) → cur ≤ u → u < s → Edge g (node u) w → Upto g (node u) (letter u) (at u) w
  all_seen u w cu h e =
      let full : g.letters ≤ letter u =
      ⊎_elim (λ (same : u ≡ cur). subst (λ x. g.letters ≤ letter x) (sym same) explored)
      (λ ne. t.last u (omega arith) h) (cases_eq u cur) in
      (e.0, e.1, e.2, inl (omega (arith, e.1)))

  comp_cut : (u : ℕ) → cur ≤ u → u < s
      → (cur ≤ low u) × ((w : ℕ) → Upto g (node u) (letter u) (at u) w → At node top n w ⊎ At node cur s w)
  comp_cut =
      t.cut cur (inl refl) t.inside
      (λ a ca ha o. let le = open_le g s top n cur a node letter low up at t o ha in
      let e : a ≡ cur = omega arith in
      subst (λ x. cur ≤ low x) (sym e) (omega arith))

  pub comp_closed : (u w : ℕ) → cur ≤ u → u < s → Edge g (node u) w → At node top n w ⊎ At node cur s w
  comp_closed u w cu h e = (comp_cut u cu h).1 w (all_seen u w cu h e)

  comp_up : (b u : ℕ) → u < b → cur ≤ u → u < s → Path g (node u) (node cur)
  comp_up zero u hb cu h = absurd (omega arith)
  comp_up (suc b) u hb cu h =
      ⊎_elim (λ (e : u ≡ cur). subst (λ x. Path g (node x) (node cur)) (sym e) here)
      (λ ne.
      let less : low u < u =
      t.shut u h (λ o. let le = open_le g s top n cur u node letter low up at t o h in ne (omega arith)) in
      let le : cur ≤ low u = (comp_cut u cu h).0 in
      path_join g (node cur) (t.back u h).1 (comp_up b (low u) (omega arith) le (omega arith)))
      (cases_eq u cur)

  pub comp_path : (u v : ℕ) → cur ≤ u → u < s → cur ≤ v → v < s → Path g (node u) (node v)
  comp_path u v cu hu cv hv =
      path_join g (node v) (comp_up s u hu cu hu) (t.down cur v (inl refl) cv hv)

  -- a marked node of the component is on a cycle, if there is another node in it
  pub comp_recurring : (u v : ℕ) → cur ≤ u → u < s → cur ≤ v → v < s → (node u ≡ node v → ⊥)
      → Reach g (node u) → g.marked (node u) ≡ true → Recurring g (node u)
  comp_recurring u v cu hu cv hv ne r m =
      let p = path_first g (node v) (comp_path u v cu hu cv hv) ne in
      record {
        reached = r;
        marked = m;
        cycle = (p.0, p.1, path_join g (node u) p.2 (comp_path v u cv hv cu hu));
      }

  module _ (measure : ℕ → ℕ) (b : ℕ) (heavy : Heavy (Follows g node cur s) top n node measure b)
      (done : (i : ℕ) → top ≤ i → i < n → Measure g (node i) (measure i)) where
    -- a walk that goes on in the done part
    rest_most : (u w j : ℕ) → cur ≤ u → u < s → Edge g (node u) w → top ≤ j → j < n → node j ≡ w
        → (xs : List ℕ) → Walk g w xs → marks g w xs ≤ b
    rest_most u w j cu hu e tj hj is xs walk =
        let low-j = heavy.most w j (u, cu, hu, e) tj hj is in
        let m = subst (λ x. Measure g x (measure j)) is (done j tj hj) in
        omega (arith, m.most xs walk)

    -- where no node of the component is marked, b is the measure of each
    module _ (plain : (u : ℕ) → cur ≤ u → u < s → mark (g.marked (node u)) ≡ 0) where
      plain_most : (xs : List ℕ) (u : ℕ) → cur ≤ u → u < s → Walk g (node u) xs → marks g (node u) xs ≤ b
      plain_most [] u cu hu walk = omega (arith, plain u cu hu)
      plain_most (w ∷ rest) u cu hu walk =
          let fewer : marks g w rest ≤ b =
          ⊎_elim (λ p. rest_most u w p.0 cu hu walk.0 p.1 p.2 p.3 rest walk.1)
          (λ p. subst (λ x. marks g x rest ≤ b) p.3
          (plain_most rest p.0 p.1 p.2 (subst (λ x. Walk g x rest) (sym p.3) walk.1)))
          (comp_closed u w cu hu walk.0) in
          omega (arith, plain u cu hu)

      plain_walk : (u : ℕ) → cur ≤ u → u < s → (xs : List ℕ) × Walk g (node u) xs × (b ≤ marks g (node u) xs)
      plain_walk u cu hu =
          ⊎_elim (λ (e : b ≡ 0). ([], tt, omega arith))
          (λ (w, j, (x, cx, hx, e), tj, hj, is, eq).
          let m = subst (λ y. Measure g y (measure j)) is (done j tj hj) in
          let p = path_join g w (comp_path u x cu hu cx hx) (path_edge g e) in
          let r = path_before g w p m.walk m.goes in
          (r.0, r.1, omega (arith, m.met, r.2)))
          heavy.met

      pub plain_measure : (u : ℕ) → cur ≤ u → u < s → Measure g (node u) b
      plain_measure u cu hu =
          let r = plain_walk u cu hu in
          record {
            walk = r.0;
            goes = r.1;
            met = omega (arith, plain_most r.0 u cu hu r.1, r.2);
            most = λ xs walk. plain_most xs u cu hu walk;
          }

    -- a single marked node with no edge to itself has one more
    module _ (single : s ≡ cur + 1) (marked : mark (g.marked (node cur)) ≡ 1) (no_self : Edge g (node cur) (node cur) → ⊥) where
      lone_most : (xs : List ℕ) → Walk g (node cur) xs → marks g (node cur) xs ≤ b + 1
      lone_most [] walk = omega arith
      lone_most (w ∷ rest) walk =
          let fewer : marks g w rest ≤ b =
          ⊎_elim (λ p. rest_most cur w p.0 (omega arith) t.inside walk.0 p.1 p.2 p.3 rest walk.1)
          (λ p. absurd
          (let e : p.0 ≡ cur = omega (arith, p.1, p.2) in
          no_self (subst (λ y. Edge g (node cur) (node y)) e (subst (λ y. Edge g (node cur) y) (sym p.3) walk.0))))
          (comp_closed cur w (omega arith) t.inside walk.0) in
          omega arith

      lone_walk : (xs : List ℕ) × Walk g (node cur) xs × (b + 1 ≤ marks g (node cur) xs)
      lone_walk =
          ⊎_elim (λ (e : b ≡ 0). ([], tt, omega arith))
          (λ (w, j, (x, cx, hx, e), tj, hj, is, eq).
          let m = subst (λ y. Measure g y (measure j)) is (done j tj hj) in
          let same : x ≡ cur = omega arith in
          (w ∷ m.walk, (subst (λ y. Edge g (node y) w) same e, m.goes), omega (arith, m.met)))
          heavy.met

      pub lone_measure : Measure g (node cur) (b + 1)
      lone_measure =
          let r = lone_walk in
          record {
            walk = r.0;
            goes = r.1;
            met = omega (arith, lone_most r.0 r.1, r.2);
            most = lone_most;
          }
