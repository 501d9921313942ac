-- A component leaves the stack for the done part.
use Rattle.std.proofs.Common.{◌≡◌, ℕ, zero, suc, ◌+◌, ◌-◌, ◌<◌, ◌≤◌, ◌⊎◌, Option, sym, refl, ◌∙◌, subst, inl, inr, ⊎_elim, arith}
use Rattle.std.proofs.lemmas.Bool.{cases_lt}
use Rattle.graph.specs.Graphs.{Graph}
use Rattle.graph.specs.Walks.{Edge, Reach, Path, Measure}
use Rattle.records.specs.Tables.{At}
use Rattle.search.specs.Trees.{Used, Upto, Open, Under, Held, Done, DoneTold, Tree}
use Rattle.numbers.proofs.Puts.{by_place}
use Rattle.search.proofs.Pushes.{path_as}
use Rattle.search.proofs.Steps.{open_le}
use Rattle.search.proofs.Components.{comp_closed}

-- the places from cur on and below s are moved up to end at top; what is below and what is done stay
pub record Shifted (s top n cur d : ℕ) (f f' : ℕ → ℕ) : Type 0 where
  pub below : (k : ℕ) → k < cur → f' k ≡ f k
  pub moved : (k : ℕ) → cur ≤ k → k < s → f' (k + d) ≡ f k
  pub done : (k : ℕ) → top ≤ k → k < n → f' k ≡ f k

-- place i has what place o had
abbrev Came : ℕ → ℕ → ℕ → ℕ → ℕ → ℕ → Type 0
Came s top cur d i o = ((i < cur) × (o ≡ i)) ⊎ (((cur ≤ o) × (o < s) × (i ≡ o + d)) ⊎ ((top ≤ i) × (o ≡ i)))

came_same : (s top cur d : ℕ) → s + d ≡ top → cur < s → (i j o : ℕ) → Came s top cur d i o → Came s top cur d j o → i ≡ j
came_same s top cur d e lt i j o a b =
    ⊎_elim
    (λ (x : (i < cur) × (o ≡ i)).
    ⊎_elim (λ (y : (j < cur) × (o ≡ j)). omega (arith, x.1, y.1))
    (⊎_elim (λ (y : (cur ≤ o) × (o < s) × (j ≡ o + d)). absurd (omega (arith, x.0, x.1, y.0)))
    (λ (y : (top ≤ j) × (o ≡ j)). omega (arith, x.1, y.1)))
    b)
    (⊎_elim
    (λ (x : (cur ≤ o) × (o < s) × (i ≡ o + d)).
    ⊎_elim (λ (y : (j < cur) × (o ≡ j)). absurd (omega (arith, x.0, y.0, y.1)))
    (⊎_elim (λ (y : (cur ≤ o) × (o < s) × (j ≡ o + d)). omega (arith, x.2, y.2))
    (λ (y : (top ≤ j) × (o ≡ j)). absurd (omega (arith, x.1, y.0, y.1))))
    b)
    (λ (x : (top ≤ i) × (o ≡ i)).
    ⊎_elim (λ (y : (j < cur) × (o ≡ j)). omega (arith, x.1, y.1))
    (⊎_elim (λ (y : (cur ≤ o) × (o < s) × (j ≡ o + d)). absurd (omega (arith, x.0, x.1, y.1)))
    (λ (y : (top ≤ j) × (o ≡ j)). omega (arith, x.1, y.1)))
    b))
    a

module _ (g : Graph) (s top n cur d : ℕ) (node node' : ℕ → ℕ) (gap : s + d ≡ top) (inside : cur < s)
    (shift : Shifted s top n cur d node node') (held : Held g s top n node) where
  came : (i : ℕ) → Used cur (cur + d) n i → (o : ℕ) × Used s top n o × (node' i ≡ node o) × Came s top cur d i o
  came i u =
      ⊎_elim
      (λ (lt : i < cur). (i, (u.0, inl (omega arith)), shift.below i lt, inl (lt, refl)))
      (λ (le : cur ≤ i).
      ⊎_elim
      (λ (lt : i < top).
      let high : cur + d ≤ i = ⊎_elim (λ (x : i < cur). absurd (omega arith)) (λ (x : cur + d ≤ i). x) u.1 in
      let e : i ≡ (i - d) + d = omega arith in
      let lo : cur ≤ i - d = omega arith in
      let hi : i - d < s = omega arith in (
        i - d,
        (omega (arith, held.stack, held.table), inl hi),
        subst (λ x. node' x ≡ node (i - d)) (sym e) (shift.moved (i - d) lo hi),
        inr (inl (lo, hi, e)),
      ))
      (λ (high : top ≤ i). (i, (u.0, inr high), shift.done i high u.0, inr (inr (high, refl))))
      (cases_lt i top))
      (cases_lt i cur)

  pub held_pop : Held g cur (cur + d) n node'
  held_pop =
      record {
        stack = omega arith;
        table = omega (arith, held.table);
        apart =
            λ i j ui uj e. let a = came i ui in
            let b = came j uj in
            let same : a.0 ≡ b.0 = held.apart a.0 b.0 a.1 b.1 (sym a.2 ∙ (e ∙ b.2)) in
            came_same s top cur d gap inside i j b.0 (subst (λ x. Came s top cur d i x) same a.3) b.3;
        reached = λ i u. let a = came i u in subst (λ x. Reach g x) (sym a.2) (held.reached a.0 a.1);
      }

  -- what was done or in the component is done
  now_done : (w : ℕ) → At node top n w ⊎ At node cur s w → At node' (cur + d) n w
  now_done w =
      ⊎_elim (λ p. (p.0, omega (arith, p.1), p.2, shift.done p.0 p.1 p.2 ∙ p.3))
      (λ p. (p.0 + d, omega (arith, p.1), omega (arith, p.2, held.table), shift.moved p.0 p.1 p.2 ∙ p.3))

  -- a place of the done part was there before, or has a node of the component
  pub done_cases : (P : ℕ → Type 0) → ((i : ℕ) → top ≤ i → i < n → P i) → ((k : ℕ) → cur ≤ k → k < s → P (k + d))
      → (i : ℕ) → cur + d ≤ i → i < n → P i
  done_cases P old new i low-i hi =
      ⊎_elim
      (λ (lt : i < top). let e : (i - d) + d ≡ i = omega arith in
      subst P e (new (i - d) (omega arith) (omega arith)))
      (λ (high : top ≤ i). old i high hi) (cases_lt i top)

  module _ (letter low up at measure measure' : ℕ → ℕ) (m : ℕ) (found : Option ℕ)
      (t : Tree g s top n cur node letter low up at) (explored : g.letters ≤ letter cur) (root : low cur ≡ cur)
      (done : Done g top n node measure found)
      (kept : (i : ℕ) → top ≤ i → i < n → measure' i ≡ measure i)
      (given : (k : ℕ) → cur ≤ k → k < s → measure' (k + d) ≡ m) where
    done_closed : (i w : ℕ) → cur + d ≤ i → i < n → Edge g (node' i) w → At node' (cur + d) n w
    done_closed i w =
        done_cases (λ i. Edge g (node' i) w → At node' (cur + d) n w)
        (λ i high hi e. now_done w (inl (done.closed i w high hi (subst (λ x. Edge g x w) (shift.done i high hi) e))))
        (λ k lo hi e. now_done w
        (comp_closed g s top n cur node letter low up at t explored root k w lo hi
        (subst (λ x. Edge g x w) (shift.moved k lo hi) e)))
        i

    pub done_pop : (found' : Option ℕ) → m ≤ n - (cur + d) → DoneTold g (cur + d) n node' measure' found'
        → Done g (cur + d) n node' measure' found'
    done_pop found' fits told =
        record {
          closed = done_closed;
          small =
              done_cases (λ i. measure' i ≤ n - (cur + d))
              (λ i high hi. omega (arith, kept i high hi, done.small i high hi))
              (λ k lo hi. omega (arith, given k lo hi));
          told = told;
        }

    pub told_pop : ((i : ℕ) → top ≤ i → i < n → Measure g (node i) (measure i))
        → ((k : ℕ) → cur ≤ k → k < s → Measure g (node k) m)
        → (i : ℕ) → cur + d ≤ i → i < n → Measure g (node' i) (measure' i)
    told_pop old new =
        done_cases (λ i. Measure g (node' i) (measure' i))
        (λ i high hi. subst (λ x. Measure g (node' i) x) (sym (kept i high hi))
        (subst (λ x. Measure g x (measure i)) (sym (shift.done i high hi)) (old i high hi)))
        (λ k lo hi. subst (λ x. Measure g (node' (k + d)) x) (sym (given k lo hi))
        (subst (λ x. Measure g x m) (sym (shift.moved k lo hi)) (new k lo hi)))

    -- the parent goes on
    module _ (pos : zero < cur) (letter' low' up' : ℕ → ℕ)
        (letters-stay : (k : ℕ) → k < cur → letter' k ≡ letter k)
        (lows-stay : (k : ℕ) → k < cur → low' k ≡ low k)
        (ups-stay : (k : ℕ) → k < cur → up' k ≡ up k) where
      parent : Under g letter (up cur) cur
      parent = (t.under cur (inl refl) pos inside).0

      pop_was : (u : ℕ) → u < cur → Open g (up cur) letter' u → Open g cur letter u
      pop_was u h =
          ⊎_elim (λ e. inr (subst (λ x. letter x < g.letters) (sym e) parent.left))
          (λ l. inr (omega (arith, letters-stay u h)))

      pop_is : (u : ℕ) → u < cur → Open g cur letter u → Open g (up cur) letter' u
      pop_is u h = ⊎_elim (λ e. absurd (omega arith)) (λ l. inr (omega (arith, letters-stay u h)))

      pop_cut :
          (c : ℕ) → Open g (up cur) letter' c → c < cur
          → ((a : ℕ) → c ≤ a → a < cur → Open g (up cur) letter' a → c ≤ low' a)
          → (u : ℕ) → c ≤ u → u < cur
          → (c ≤ low' u)
          × ((w : ℕ) → Upto g (node' u) (letter' u) (at u) w → At node' (cur + d) n w ⊎ At node' c cur w)
      pop_cut c oc hc all u cu hu =
          let before : (a : ℕ) → c ≤ a → a < s → Open g cur letter a → c ≤ low a =
          λ a ca ha oa.
          let le = open_le g s top n cur a node letter low up at t oa ha in
          by_place (λ a. c ≤ a → a ≤ cur → Open g cur letter a → c ≤ low a) cur a
          (λ ca le oa. omega arith)
          (λ ne ca le oa. let lt : a < cur = omega arith in
          omega (arith, all a ca lt (pop_is a lt oa), lows-stay a lt))
          ca le oa in
          let old = t.cut c (pop_was c hc oc) (omega arith) before u cu (omega arith) in (
            omega (arith, lows-stay u hu, old.0),
            λ w seen.
                let was : Upto g (node u) (letter u) (at u) w =
                subst (λ y. Upto g (node u) y (at u) w) (letters-stay u hu)
                (subst (λ y. Upto g y (letter' u) (at u) w) (shift.below u hu) seen) in
                ⊎_elim (λ (p : At node top n w). inl (now_done w (inl p)))
                (λ (p : At node c s w).
                ⊎_elim (λ (lt : p.0 < cur). inr (p.0, p.1, lt, shift.below p.0 lt ∙ p.3))
                (λ (le : cur ≤ p.0). inl (now_done w (inr (p.0, le, p.2, p.3))))
                (cases_lt p.0 cur))
                (old.1 w was),
          )

      pop_under : (u : ℕ) → Open g (up cur) letter' u → zero < u → u < cur
          → Under g letter' (up' u) u × (at (up' u) ≡ suc (node' u))
      pop_under u o pos-u h =
          let old = t.under u (pop_was u h o) pos-u (omega arith) in
          let lo = old.0.below in
          subst (λ p. Under g letter' p u × (at p ≡ suc (node' u))) (sym (ups-stay u h)) (
            record {
              below = lo;
              left = omega (arith, letters-stay (up u) (omega arith), old.0.left);
              between = λ k a b. omega (arith, letters-stay k (omega arith), old.0.between k a b);
            },
            omega (arith, old.1, shift.below u h),
          )

      pub tree_pop : Tree g cur (cur + d) n (up cur) node' letter' low' up' at
      tree_pop =
          record {
            inside = parent.below;
            down =
                λ a u o au h. path_as g (shift.below a (omega arith)) (shift.below u h)
                (t.down a u (pop_was a (omega arith) o) au (omega arith));
            back =
                λ u h. let old = t.back u (omega arith) in
                let e = lows-stay u h in
                subst (λ y. (y ≤ u) × Path g (node' u) (node' y)) (sym e)
                (old.0, path_as g (shift.below u h) (shift.below (low u) (omega (arith, old.0))) old.1);
            shut =
                λ u h shut. omega (arith, lows-stay u h, t.shut u (omega arith) (λ o. shut (pop_is u h o)));
            last = λ u a h. omega (arith, letters-stay u h, parent.between u a h);
            cut = pop_cut;
            under = pop_under;
          }
