-- What a finished component is worth.
use Rattle.std.proofs.Common.{◌≡◌, ℕ, ◌+◌, ◌-◌, ◌<◌, ◌≤◌, Bool, true, false, ◌⊎◌, List, length, None, sym, refl, subst, inl, inr, ⊎_elim, arith}
use Rattle.std.proofs.lemmas.Bool.{cases_eq, cases_lt}
use Rattle.graph.specs.Graphs.{Graph}
use Rattle.graph.specs.Walks.{Edge, Reach, here, Recurring, mark, Measure}
use Rattle.records.specs.declared.record.Record.{Record}
use Rattle.records.specs.Tables.{node_at, letter_at, measure_at}
use Rattle.search.specs.Links.{low_at, up_at}
use Rattle.search.specs.Trees.{Used, Follows, Heavy}
use Rattle.search.specs.Weights.{Unmarked, MarkedIn, Rooted}
use Rattle.search.proofs.Components.{comp_recurring, plain_measure, lone_measure}

unmarked : (b : Bool) → (b ≡ true → ⊥) → mark b ≡ 0
unmarked true no-mark = absurd (no-mark refl)
unmarked false no-mark = refl

module _ (g : Graph) (s top cur : ℕ) (work : List Record) (r : Rooted g s top cur None work) where
  used : (u : ℕ) → u < s → Used s top (length work) u
  used u h = (omega (arith, r.here.going.held.stack, r.here.going.held.table), inl h)

  module _ (b : ℕ) (heavy : Heavy (Follows g (node_at work) cur s) top (length work) (node_at work) (measure_at work) b) where
    pub weight_fits : b ≤ length work - top
    weight_fits =
        ⊎_elim (λ (z : b ≡ 0). omega arith)
        (λ (w, j, p, t, h, e, is). omega (arith, r.here.done.small j t h)) heavy.met

    pub assess_plain : Unmarked g cur s work → (u : ℕ) → cur ≤ u → u < s → Measure g (node_at work u) b
    assess_plain none =
        plain_measure g s top (length work) cur (node_at work) (letter_at work) (low_at work) (up_at work) r.here.going.at
        r.here.going.tree r.here.explored r.root (measure_at work) b heavy r.here.done.told
        (λ u cu hu. unmarked (g.marked (node_at work u)) (none u cu hu))

    pub assess_lone : (v : ℕ) → MarkedIn g cur s work v → ((cur + 1 < s) ⊎ Edge g v v → ⊥)
        → (u : ℕ) → cur ≤ u → u < s → Measure g (node_at work u) (b + 1)
    assess_lone v (x, cx, hx, is, marked) none u cu hu =
        let single : s ≡ cur + 1 = ⊎_elim (λ (lt : cur + 1 < s). absurd (none (inl lt))) (λ (le : s ≤ cur + 1). omega arith) (cases_lt (cur + 1) s) in
        let ux : u ≡ cur = omega arith in
        let same : node_at work cur ≡ v = subst (λ y. node_at work y ≡ v) (let e : x ≡ cur = omega arith in e) is in
        subst (λ y. Measure g (node_at work y) (b + 1)) (sym ux)
        (lone_measure g s top (length work) cur (node_at work) (letter_at work) (low_at work) (up_at work) r.here.going.at
        r.here.going.tree r.here.explored r.root (measure_at work) b heavy r.here.done.told single
        (subst (λ y. mark (g.marked y) ≡ 1) (sym same) (subst (λ y. mark y ≡ 1) (sym marked) refl))
        (λ e. none (inr (subst (λ y. Edge g y y) same e))))

  pub assess_cycle : (v : ℕ) → MarkedIn g cur s work v → (cur + 1 < s) ⊎ Edge g v v → Recurring g v
  assess_cycle v (u, cu, hu, is, marked) =
      let reached = r.here.going.held.reached u (used u hu) in
      ⊎_elim
      (λ (lt : cur + 1 < s).
      let other : (x : ℕ) × (cur ≤ x) × (x < s) × (u ≡ x → ⊥) =
      ⊎_elim (λ (e : u ≡ cur). (cur + 1, omega arith, lt, λ d. omega arith)) (λ ne. (cur, omega arith, omega arith, ne)) (cases_eq u cur) in
      subst (λ y. Recurring g y) is
      (comp_recurring g s top (length work) cur (node_at work) (letter_at work) (low_at work) (up_at work) r.here.going.at
      r.here.going.tree r.here.explored r.root u other.0 cu hu other.1 other.2
      (λ e. other.3 (r.here.going.held.apart u other.0 (used u hu) (used other.0 other.2) e))
      reached (subst (λ y. g.marked y ≡ true) (sym is) marked)))
      (λ (e : Edge g v v).
      record { reached = subst (λ y. Reach g y) is reached; marked = marked; cycle = (v, e, here) })
