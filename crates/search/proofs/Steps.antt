-- What a search does to its stack keeps the facts on it.
use Rattle.std.proofs.Common.{◌≡◌, ℕ, zero, suc, ◌<◌, ◌≤◌, ◌⊎◌, sym, subst, inl, inr, ⊎_elim, arith}
use Rattle.std.proofs.lemmas.Bool.{cases_lt}
use Rattle.graph.specs.Graphs.{Graph}
use Rattle.graph.specs.Walks.{Path}
use Rattle.records.specs.Tables.{At}
use Rattle.search.specs.Trees.{Upto, Open, Under, Tree}
use Rattle.numbers.specs.Puts.{put}
use Rattle.numbers.proofs.Puts.{by_place, put_same, put_other}

-- an open place is not above the current one
pub open_le : (g : Graph) (s top n cur u : ℕ) (node letter low up at : ℕ → ℕ)
    → Tree g s top n cur node letter low up at → Open g cur letter u → u < s → u ≤ cur
open_le g s top n cur u node letter low up at t o h =
    ⊎_elim (λ (e : u ≡ cur). omega arith)
    (λ (l : letter u < g.letters).
    ⊎_elim (λ (above : cur < u). absurd (omega (arith, t.last u above h))) (λ (b : u ≤ cur). b) (cases_lt cur u))
    o

-- an open place looks further at its edges, and lowers its low link to a place that it leads to
module _ (g : Graph) (s top n cur i l m x : ℕ) (node letter low up at : ℕ → ℕ)
    (t : Tree g s top n cur node letter low up at)
    (was : Open g cur letter i) (is : Open g cur (put letter i l) i) (inside : i < s)
    (goes_on : (i ≡ cur) ⊎ (x ≡ at i)) (falls : m ≤ low i) (leads : Path g (node i) (node m))
    (more : (w : ℕ) → Upto g (node i) l x w → Upto g (node i) (letter i) (at i) w ⊎ (At node top n w ⊎ At node m s w)) where
  open_was : (u : ℕ) → Open g cur (put letter i l) u → Open g cur letter u
  open_was u =
      by_place (λ u. Open g cur (put letter i l) u → Open g cur letter u) i u (λ o. was)
      (λ ne. ⊎_elim inl (λ h. inr (omega (arith, put_other letter i l u ne))))

  open_is : (u : ℕ) → Open g cur letter u → Open g cur (put letter i l) u
  open_is u =
      by_place (λ u. Open g cur letter u → Open g cur (put letter i l) u) i u (λ o. is)
      (λ ne. ⊎_elim inl (λ h. inr (omega (arith, put_other letter i l u ne))))

  seen_back : (u : ℕ) → u < s → (put low i m u ≤ u) × Path g (node u) (node (put low i m u))
  seen_back u =
      by_place (λ u. u < s → (put low i m u ≤ u) × Path g (node u) (node (put low i m u))) i u
      (λ h. subst (λ y. (y ≤ i) × Path g (node i) (node y)) (sym (put_same low i m)) (omega (arith, (t.back i h).0), leads))
      (λ ne h. subst (λ y. (y ≤ u) × Path g (node u) (node y)) (sym (put_other low i m u ne)) (t.back u h))

  seen_shut : (u : ℕ) → u < s → (Open g cur (put letter i l) u → ⊥) → put low i m u < u
  seen_shut u =
      by_place (λ u. u < s → (Open g cur (put letter i l) u → ⊥) → put low i m u < u) i u
      (λ h shut. absurd (shut is))
      (λ ne h shut. omega (arith, put_other low i m u ne, t.shut u h (λ o. shut (open_is u o))))

  seen_last : (u : ℕ) → cur < u → u < s → g.letters ≤ put letter i l u
  seen_last u =
      by_place (λ u. cur < u → u < s → g.letters ≤ put letter i l u) i u
      (λ a h. absurd (let b = open_le g s top n cur i node letter low up at t was h in omega arith))
      (λ ne a h. omega (arith, put_other letter i l u ne, t.last u a h))

  seen_cut :
      (c : ℕ) → Open g cur (put letter i l) c → c < s
      → ((a : ℕ) → c ≤ a → a < s → Open g cur (put letter i l) a → c ≤ put low i m a)
      → (u : ℕ) → c ≤ u → u < s
      → (c ≤ put low i m u)
      × ((w : ℕ) → Upto g (node u) (put letter i l u) (put at i x u) w → At node top n w ⊎ At node c s w)
  seen_cut c oc hc all u =
      let before : (a : ℕ) → c ≤ a → a < s → Open g cur letter a → c ≤ low a =
      λ a. by_place (λ a. c ≤ a → a < s → Open g cur letter a → c ≤ low a) i a
      (λ ca h o. omega (arith, all i ca h is, put_same low i m))
      (λ ne ca h o. omega (arith, all a ca h (open_is a o), put_other low i m a ne)) in
      let old = t.cut c (open_was c oc) hc before in
      by_place
      (λ u. c ≤ u → u < s
      → (c ≤ put low i m u)
      × ((w : ℕ) → Upto g (node u) (put letter i l u) (put at i x u) w → At node top n w ⊎ At node c s w))
      i u
      (λ cu h. let low-i : c ≤ m = omega (arith, all i cu h is, put_same low i m) in (
        omega (arith, put_same low i m),
        λ w seen.
            let seen-i : Upto g (node i) l x w =
            subst (λ y. Upto g (node i) l y w) (put_same at i x)
            (subst (λ y. Upto g (node i) y (put at i x i) w) (put_same letter i l) seen) in
            ⊎_elim (λ o. (old i cu h).1 w o)
            (⊎_elim inl (λ p. inr (p.0, omega (arith, p.1), p.2, p.3)))
            (more w seen-i),
      ))
      (λ ne cu h. (
        omega (arith, put_other low i m u ne, (old u cu h).0),
        λ w seen.
            (old u cu h).1 w
            (subst (λ y. Upto g (node u) (letter u) y w) (put_other at i x u ne)
            (subst (λ y. Upto g (node u) y (put at i x u) w) (put_other letter i l u ne) seen)),
      ))

  seen_under : (u : ℕ) → Open g cur (put letter i l) u → zero < u → u < s
      → Under g (put letter i l) (up u) u × (put at i x (up u) ≡ suc (node u))
  seen_under u o pos h =
      let old = t.under u (open_was u o) pos h in
      let ou : u ≤ cur = open_le g s top n cur u node letter low up at t (open_was u o) h in
      let left : put letter i l (up u) < g.letters =
      by_place (λ p. p < cur → letter p < g.letters → put letter i l p < g.letters) i (up u)
      (λ low-p e. ⊎_elim (λ (same : i ≡ cur). absurd (omega arith)) (λ k. k) is)
      (λ ne low-p e. omega (arith, put_other letter i l (up u) ne))
      (omega (arith, old.0.below)) old.0.left in
      let between : (k : ℕ) → up u < k → k < u → g.letters ≤ put letter i l k =
      λ k. by_place (λ k. up u < k → k < u → g.letters ≤ put letter i l k) i k
      (λ a b. absurd (let c = old.0.between i a b in
      ⊎_elim (λ (same : i ≡ cur). omega arith) (λ (e : letter i < g.letters). omega arith) was))
      (λ ne a b. omega (arith, put_other letter i l k ne, old.0.between k a b)) in
      let goes : put at i x (up u) ≡ suc (node u) =
      by_place (λ p. p < cur → at p ≡ suc (node u) → put at i x p ≡ suc (node u)) i (up u)
      (λ low-p e. ⊎_elim (λ (same : i ≡ cur). absurd (omega arith)) (λ (same : x ≡ at i). omega (arith, put_same at i x)) goes_on)
      (λ ne low-p e. omega (arith, put_other at i x (up u) ne))
      (omega (arith, old.0.below)) old.1 in
      (record { below = old.0.below; left = left; between = between }, goes)

  pub tree_seen : Tree g s top n cur node (put letter i l) (put low i m) up (put at i x)
  tree_seen =
      record {
        inside = t.inside;
        down = λ a u o. t.down a u (open_was a o);
        back = seen_back;
        shut = seen_shut;
        last = seen_last;
        cut = seen_cut;
        under = seen_under;
      }
