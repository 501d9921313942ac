-- A new node goes onto the stack, and an explored place is left for its parent.
use Rattle.std.proofs.Common.{◌≡◌, ℕ, zero, suc, ◌+◌, ◌<◌, ◌≤◌, ◌⊎◌, sym, refl, subst, inl, inr, ⊎_elim, arith}
use Rattle.std.proofs.lemmas.Bool.{cases_eq, cases_lt}
use Rattle.graph.specs.Graphs.{Graph}
use Rattle.graph.specs.Walks.{Edge, Path, here}
use Rattle.graph.proofs.Paths.{path_join, path_edge}
use Rattle.records.specs.Tables.{At}
use Rattle.search.specs.Trees.{Upto, Open, Under, Tree}
use Rattle.numbers.specs.Puts.{put}
use Rattle.numbers.proofs.Puts.{by_place, put_same, put_other}
use Rattle.search.proofs.Steps.{open_le}

pub path_as : (g : Graph) {a b c d : ℕ} → a ≡ b → c ≡ d → Path g b d → Path g a c
path_as g {a} {b} {c} {d} e f p = subst (λ x. Path g x c) (sym e) (subst (λ x. Path g b x) (sym f) p)

-- v follows the current place and is found for the first time
module _ (g : Graph) (s top n cur v : ℕ) (node letter low up at : ℕ → ℕ)
    (t : Tree g s top n cur node letter low up at) (room : s < top)
    (left : letter cur < g.letters) (edge : Edge g (node cur) v)
    (more : (w : ℕ) → Upto g (node cur) (letter cur) (suc v) w → Upto g (node cur) (letter cur) (at cur) w ⊎ (w ≡ v)) where
  at_new : ℕ → ℕ
  at_new = put (put at cur (suc v)) s 0

  node_old : (u : ℕ) → u < s → put node s v u ≡ node u
  node_old u h = put_other node s v u (λ e. omega arith)

  letter_old : (u : ℕ) → u < s → put letter s 0 u ≡ letter u
  letter_old u h = put_other letter s 0 u (λ e. omega arith)

  at_old : (u : ℕ) → u < s → (u ≡ cur → ⊥) → at_new u ≡ at u
  unfolding at_new
  at_old u h ne = let a = put_other (put at cur (suc v)) s 0 u (λ e. omega arith) in
      omega (arith, put_other at cur (suc v) u ne)

  at_cur : at_new cur ≡ suc v
  unfolding at_new
  at_cur = let a = put_other (put at cur (suc v)) s 0 cur (λ e. omega (arith, t.inside)) in
      omega (arith, put_same at cur (suc v))

  at_last : at_new s ≡ 0
  unfolding at_new
  at_last = put_same (put at cur (suc v)) s 0

  push_was : (u : ℕ) → u < s → Open g s (put letter s 0) u → Open g cur letter u
  push_was u h = ⊎_elim (λ e. absurd (omega arith)) (λ l. inr (omega (arith, letter_old u h)))

  push_is : (u : ℕ) → u < s → Open g cur letter u → Open g s (put letter s 0) u
  push_is u h =
      ⊎_elim (λ (e : u ≡ cur). inr (subst (λ x. put letter s 0 x < g.letters) (sym e) (omega (arith, letter_old cur t.inside))))
      (λ l. inr (omega (arith, letter_old u h)))

  push_down : (a u : ℕ) → Open g s (put letter s 0) a → a ≤ u → u < s + 1 → Path g (put node s v a) (put node s v u)
  push_down a u o h hu =
      by_place (λ u. a ≤ u → u < s + 1 → Path g (put node s v a) (put node s v u)) s u
      (λ h hu.
      by_place (λ a. a ≤ s → Open g s (put letter s 0) a → Path g (put node s v a) (put node s v s)) s a
      (λ h o. here)
      (λ ne h o. let lt : a < s = omega arith in
      let le : a ≤ cur = open_le g s top n cur a node letter low up at t (push_was a lt o) lt in
      path_as g (node_old a lt) (put_same node s v)
      (path_join g v (t.down a cur (push_was a lt o) le t.inside) (path_edge g edge)))
      h o)
      (λ ne h hu. let lt : u < s = omega arith in
      let la : a < s = omega arith in
      path_as g (node_old a la) (node_old u lt) (t.down a u (push_was a la o) h lt))
      h hu

  push_back : (u : ℕ) → u < s + 1 → (put low s s u ≤ u) × Path g (put node s v u) (put node s v (put low s s u))
  push_back u =
      by_place (λ u. u < s + 1 → (put low s s u ≤ u) × Path g (put node s v u) (put node s v (put low s s u))) s u
      (λ h. subst (λ y. (y ≤ s) × Path g (put node s v s) (put node s v y)) (sym (put_same low s s)) (omega arith, here))
      (λ ne h. let lt : u < s = omega arith in
      let old = t.back u lt in
      subst (λ y. (y ≤ u) × Path g (put node s v u) (put node s v y)) (sym (put_other low s s u ne))
      (old.0, path_as g (node_old u lt) (node_old (low u) (omega (arith, old.0))) old.1))

  push_shut : (u : ℕ) → u < s + 1 → (Open g s (put letter s 0) u → ⊥) → put low s s u < u
  push_shut u =
      by_place (λ u. u < s + 1 → (Open g s (put letter s 0) u → ⊥) → put low s s u < u) s u
      (λ h shut. absurd (shut (inl refl)))
      (λ ne h shut. let lt : u < s = omega arith in
      omega (arith, put_other low s s u ne, t.shut u lt (λ o. shut (push_is u lt o))))

  none_seen : (w : ℕ) → Upto g (put node s v s) (put letter s 0 s) (at_new s) w → ⊥
  none_seen w seen =
      ⊎_elim (λ h. omega (arith, put_same letter s 0)) (λ h. omega (arith, h.1, at_last)) seen.3

  push_cut :
      (c : ℕ) → Open g s (put letter s 0) c → c < s + 1
      → ((a : ℕ) → c ≤ a → a < s + 1 → Open g s (put letter s 0) a → c ≤ put low s s a)
      → (u : ℕ) → c ≤ u → u < s + 1
      → (c ≤ put low s s u)
      × ((w : ℕ) → Upto g (put node s v u) (put letter s 0 u) (at_new u) w → At (put node s v) top n w ⊎ At (put node s v) c (s + 1) w)
  push_cut c oc hc all u =
      by_place
      (λ u. c ≤ u → u < s + 1
      → (c ≤ put low s s u)
      × ((w : ℕ) → Upto g (put node s v u) (put letter s 0 u) (at_new u) w → At (put node s v) top n w ⊎ At (put node s v) c (s + 1) w))
      s u
      (λ cu h. (omega (arith, put_same low s s), λ w seen. absurd (none_seen w seen)))
      (λ ne cu h.
      let lt : u < s = omega arith in
      let lc : c < s = omega arith in
      let before : (a : ℕ) → c ≤ a → a < s → Open g cur letter a → c ≤ low a =
      λ a ca ha o. omega (arith, all a ca (omega arith) (push_is a ha o), put_other low s s a (λ e. omega arith)) in
      let old = t.cut c (push_was c lc oc) lc before u cu lt in
      let moved : (w : ℕ) → At node top n w ⊎ At node c s w → At (put node s v) top n w ⊎ At (put node s v) c (s + 1) w =
      λ w. ⊎_elim
      (λ p. inl (p.0, p.1, p.2, subst (λ x. x ≡ w) (sym (put_other node s v p.0 (λ e. omega (arith, p.1)))) p.3))
      (λ p. inr (p.0, p.1, omega (arith, p.2), subst (λ x. x ≡ w) (sym (node_old p.0 p.2)) p.3)) in (
        omega (arith, put_other low s s u ne, old.0),
        λ w seen.
            let seen_as : (x : ℕ) → at_new u ≡ x → Upto g (node u) (letter u) x w =
            λ x e. subst (λ y. Upto g (node u) (letter u) y w) e
            (subst (λ y. Upto g (node u) y (at_new u) w) (letter_old u lt)
            (subst (λ y. Upto g y (put letter s 0 u) (at_new u) w) (node_old u lt) seen)) in
            ⊎_elim
            (λ (e : u ≡ cur).
            ⊎_elim (λ o. moved w (old.1 w (subst (λ x. Upto g (node x) (letter x) (at x) w) (sym e) o)))
            (λ (is : w ≡ v). inr (s, omega arith, omega arith, subst (λ x. put node s v s ≡ x) (sym is) (put_same node s v)))
            (more w (subst (λ x. Upto g (node x) (letter x) (suc v) w) e (seen_as (suc v) (subst (λ x. at_new x ≡ suc v) (sym e) at_cur)))))
            (λ differs. moved w (old.1 w (seen_as (at u) (at_old u lt differs))))
            (cases_eq u cur),
      ))

  push_under : (u : ℕ) → Open g s (put letter s 0) u → zero < u → u < s + 1
      → Under g (put letter s 0) (put up s cur u) u × (at_new (put up s cur u) ≡ suc (put node s v u))
  push_under u o pos h =
      by_place
      (λ u. Open g s (put letter s 0) u → zero < u → u < s + 1
      → Under g (put letter s 0) (put up s cur u) u × (at_new (put up s cur u) ≡ suc (put node s v u)))
      s u
      (λ o pos h.
      subst (λ p. Under g (put letter s 0) p s × (at_new p ≡ suc (put node s v s))) (sym (put_same up s cur)) (
        record {
          below = t.inside;
          left = omega (arith, letter_old cur t.inside);
          between = λ k a b. omega (arith, letter_old k b, t.last k a b);
        },
        omega (arith, at_cur, put_same node s v),
      ))
      (λ ne o pos h.
      let lt : u < s = omega arith in
      let old = t.under u (push_was u lt o) pos lt in
      let le : u ≤ cur = open_le g s top n cur u node letter low up at t (push_was u lt o) lt in
      let below = old.0.below in
      subst (λ p. Under g (put letter s 0) p u × (at_new p ≡ suc (put node s v u))) (sym (put_other up s cur u ne)) (
        record {
          below = below;
          left = omega (arith, letter_old (up u) (omega (arith, below)), old.0.left);
          between = λ k a b. omega (arith, letter_old k (omega arith), old.0.between k a b);
        },
        omega (arith, at_old (up u) (omega (arith, below)) (λ e. omega (arith, below)), old.1, node_old u lt),
      ))
      o pos h

  pub tree_push : Tree g (s + 1) top n s (put node s v) (put letter s 0) (put low s s) (put up s cur) (put (put at cur (suc v)) s 0)
  unfolding at_new
  tree_push =
      record {
        inside = omega arith;
        down = push_down;
        back = push_back;
        shut = push_shut;
        last = λ u a h. absurd (omega arith);
        cut = push_cut;
        under = push_under;
      }

-- the current place is explored and is not the root of a component: its parent has its low link too
module _ (g : Graph) (s top n cur : ℕ) (node letter low up at : ℕ → ℕ)
    (t : Tree g s top n cur node letter low up at) (explored : g.letters ≤ letter cur) (pos : zero < cur)
    (falls : low cur < cur) (passed : low (up cur) ≤ low cur) where
  parent : Under g letter (up cur) cur
  parent = (t.under cur (inl refl) pos t.inside).0

  leave_was : (u : ℕ) → Open g (up cur) letter u → Open g cur letter u
  leave_was u = ⊎_elim (λ e. inr (subst (λ x. letter x < g.letters) (sym e) parent.left)) inr

  leave_is : (u : ℕ) → (u ≡ cur → ⊥) → Open g cur letter u → Open g (up cur) letter u
  leave_is u ne = ⊎_elim (λ e. absurd (ne e)) inr

  leave_last : (u : ℕ) → up cur < u → u < s → g.letters ≤ letter u
  leave_last u a h =
      by_place (λ u. up cur < u → u < s → g.letters ≤ letter u) cur u (λ a h. explored)
      (λ ne a h. ⊎_elim (λ b. parent.between u a b) (λ b. t.last u (omega arith) h) (cases_lt u cur))
      a h

  leave_le : (c : ℕ) → Open g (up cur) letter c → c < s → c ≤ up cur
  leave_le c o h =
      ⊎_elim (λ (e : c ≡ up cur). omega arith)
      (λ (l : letter c < g.letters).
      ⊎_elim (λ (a : up cur < c). absurd (omega (arith, leave_last c a h))) (λ (b : c ≤ up cur). b) (cases_lt (up cur) c))
      o

  pub tree_leave : Tree g s top n (up cur) node letter low up at
  tree_leave =
      record {
        inside = omega (arith, parent.below, t.inside);
        down = λ a u o. t.down a u (leave_was a o);
        back = t.back;
        shut =
            λ u. by_place (λ u. u < s → (Open g (up cur) letter u → ⊥) → low u < u) cur u (λ h shut. falls)
            (λ ne h shut. t.shut u h (λ o. shut (leave_is u ne o)));
        last = leave_last;
        cut =
            λ c o h all. t.cut c (leave_was c o) h
            (λ a. by_place (λ a. c ≤ a → a < s → Open g cur letter a → c ≤ low a) cur a
            (λ ca ha oa. let le = leave_le c o h in
            omega (arith, all (up cur) le (omega (arith, parent.below, t.inside)) (inl refl)))
            (λ ne ca ha oa. all a ca ha (leave_is a ne oa)));
        under = λ u o. t.under u (leave_was u o);
      }
