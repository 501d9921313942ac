-- The greatest measure among done nodes, taken over more and more of them.
use Rattle.std.proofs.Common.{◌≡◌, ℕ, ◌+◌, ◌<◌, ◌≤◌, max, true, ◌⊎◌, List, length, Some, Option, sym, refl, ◌∙◌, subst, inl, inr, ⊎_elim, arith}
use Rattle.std.proofs.lemmas.Bool.{cases_eq, cases_lt}
use Rattle.graph.specs.Graphs.{Graph}
use Rattle.graph.specs.Walks.{Edge, ByLetters}
use Rattle.records.specs.declared.record.Record.{Record}
use Rattle.graph.specs.Ascending.{Next}
use Rattle.records.specs.Tables.{node_at, measure_at}
use Rattle.search.specs.Trees.{Follows, Heavy}
use Rattle.search.specs.Weights.{Weight, Apart, Below}

module _ (top n : ℕ) (node measure : ℕ → ℕ) where
  pub heavy_max : (P Q R : ℕ → Type 0) (b c : ℕ)
      → ((w : ℕ) → R w → P w ⊎ Q w) → ((w : ℕ) → P w → R w) → ((w : ℕ) → Q w → R w)
      → Heavy P top n node measure b → Heavy Q top n node measure c → Heavy R top n node measure (max b c)
  heavy_max P Q R b c split left right hp hq =
      record {
        most =
            λ w j r t h e.
            ⊎_elim (λ p. omega (arith, hp.most w j p t h e)) (λ q. omega (arith, hq.most w j q t h e)) (split w r);
        met =
            ⊎_elim
            (λ (lt : b < c).
            let same : max b c ≡ c = omega arith in
            ⊎_elim (λ (z : c ≡ 0). inl (omega arith)) (λ (w, j, q, t, h, e, is). inr (w, j, right w q, t, h, e, omega arith)) hq.met)
            (λ (le : c ≤ b).
            let same : max b c ≡ b = omega arith in
            ⊎_elim (λ (z : b ≡ 0). inl (omega arith)) (λ (w, j, p, t, h, e, is). inr (w, j, left w p, t, h, e, omega arith)) hp.met)
            (cases_lt b c);
      }

pub weight_heavy : (top node r : ℕ) (work : List Record) → Apart top work → Weight top node work r
    → Heavy (λ w. w ≡ node) top (length work) (node_at work) (measure_at work) r
weight_heavy top node r work apart =
    ⊎_elim
    (λ (i, ti, hi, is, m).
    record {
      most =
          λ w j same tj hj e.
          let ij : i ≡ j = apart i j ti hi tj hj (is ∙ sym (e ∙ same)) in
          subst (λ x. measure_at work x ≤ r) ij (omega arith);
      met = inr (node, i, refl, ti, hi, is, m);
    })
    (λ (none, zero-r).
    record {
      most = λ w j same tj hj e. absurd (none (j, tj, hj, e ∙ same));
      met = inl zero-r;
    })

module _ (g : Graph) (v l top : ℕ) (work : List Record) where
  heavy_next : (from after : Option ℕ) (next b r : ℕ) → Next (g.edge v l) from (Some next) after
      → Heavy (Below g v l from) top (length work) (node_at work) (measure_at work) b
      → Heavy (λ w. w ≡ next) top (length work) (node_at work) (measure_at work) r
      → Heavy (Below g v l after) top (length work) (node_at work) (measure_at work) (max b r)
  heavy_next from after next b r (edge, up_to, more, passed) =
      heavy_max top (length work) (node_at work) (measure_at work) (Below g v l from) (λ w. w ≡ next) (Below g v l after) b r
      (λ w (e, p). ⊎_elim (λ a. inl (e, a)) (λ is. inr is) (up_to w e p))
      (λ w (e, p). (e, more w p))
      (λ w is. subst (λ x. Below g v l after x) (sym is) (edge, passed))

  pub heavy_step : (from after : Option ℕ) (next b r x : ℕ) → Apart top work → Next (g.edge v l) from (Some next) after
      → Heavy (Below g v l from) top (length work) (node_at work) (measure_at work) b → Weight top next work r → x ≡ max b r
      → Heavy (Below g v l after) top (length work) (node_at work) (measure_at work) x
  heavy_step from after next b r x apart gives heavy weight is =
      subst (λ y. Heavy (Below g v l after) top (length work) (node_at work) (measure_at work) y) (sym is)
      (heavy_next from after next b r gives heavy (weight_heavy top next r work apart weight))

  pub heavy_letter : (b c x : ℕ) → Heavy (ByLetters g v l) top (length work) (node_at work) (measure_at work) b
      → Heavy (λ w. g.edge v l w ≡ true) top (length work) (node_at work) (measure_at work) c → x ≡ max b c
      → Heavy (ByLetters g v (l + 1)) top (length work) (node_at work) (measure_at work) x
  heavy_letter b c x hb hc is =
      subst (λ y. Heavy (ByLetters g v (l + 1)) top (length work) (node_at work) (measure_at work) y) (sym is)
      (heavy_max top (length work) (node_at work) (measure_at work) (ByLetters g v l) (λ w. g.edge v l w ≡ true) (ByLetters g v (l + 1)) b c
      (λ w (k, lt, e).
      ⊎_elim (λ (same : k ≡ l). inr (subst (λ x. g.edge v x w ≡ true) same e)) (λ ne. inl (k, omega arith, e)) (cases_eq k l))
      (λ w (k, lt, e). (k, omega arith, e))
      (λ w e. (l, omega arith, e)) hb hc)

pub heavy_place : (g : Graph) (a i top : ℕ) (work : List Record) (b c x : ℕ) → a ≤ i
    → Heavy (Follows g (node_at work) a i) top (length work) (node_at work) (measure_at work) b
    → Heavy (Edge g (node_at work i)) top (length work) (node_at work) (measure_at work) c → x ≡ max b c
    → Heavy (Follows g (node_at work) a (i + 1)) top (length work) (node_at work) (measure_at work) x
heavy_place g a i top work b c x le hb hc is =
    subst (λ y. Heavy (Follows g (node_at work) a (i + 1)) top (length work) (node_at work) (measure_at work) y) (sym is)
    (heavy_max top (length work) (node_at work) (measure_at work) (Follows g (node_at work) a i) (Edge g (node_at work i))
    (Follows g (node_at work) a (i + 1)) b c
    (λ w (u, au, lt, e).
    ⊎_elim (λ (same : u ≡ i). inr (subst (λ x. Edge g (node_at work x) w) same e)) (λ ne. inl (u, au, omega arith, e)) (cases_eq u i))
    (λ w (u, au, lt, e). (u, au, omega arith, e))
    (λ w e. (i, le, omega arith, e)) hb hc)
