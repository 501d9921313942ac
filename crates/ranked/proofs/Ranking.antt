-- Which digits the choices let each state have: at a start, at any node, and after a step.
use Rattle.std.proofs.Common.{◌≡◌, ℕ, zero, suc, ◌+◌, ◌%◌, ◌<◌, ◌≤◌, ◌⊎◌, Bool, true, false, not, ◌&&◌, ◌||◌, eqb, leb, ltb, Option, Some, None, is_some, refl, sym, ap, ◌∙◌, subst, ⊎_elim, arith}
use Rattle.std.proofs.lemmas.Bool.{and_from, and_left, and_parts, and_right, both_ways, cases_lt, eq-eqb, eqb-true, false_from_ne_true, le-leb, le-ltb, leb-true, lt-ltb}
use lib.Bits.{bit_or}
use lib.Dec.{eqb-suc-zero, leb-suc-suc}
use Rattle.chart.specs.Automata.{Automaton, Limits}
use Rattle.numbers.specs.Bits.{bit}
use Rattle.numbers.proofs.Bits.{bit_of_or}
use Rattle.rank.specs.Layout.{rank_held}
use Rattle.rank.specs.Rules.{is_even, is_first_rank, is_next_rank, may_have, top_rank}
use Rattle.rank.proofs.Implied.{alike, implied, implied_from}
use Rattle.rank.proofs.Numbers.{even_held}
use Rattle.rank.proofs.Laws.{follows_from, follows_some, marked_even, may_have_from, next_follows, next_none, next_ranked, next_some, some_value, top_even}
use Rattle.ranked.specs.Digits.{digit}
use Rattle.ranked.specs.Offered.{is_within}
use Rattle.ranked.specs.Following.{Lowest, LowestBelow, is_upto}
use Rattle.ranked.proofs.Upto.{bit_zero}

and_true : (t : Bool) → (t && true) ≡ t
and_true true = refl
and_true false = refl

zero_only : (r : ℕ) → suc r < 16 → bit 1 (suc r) ≡ false
zero_only r h = bit_zero (suc r) h ∙ eqb-suc-zero r

some_same : {r s : ℕ} → ◌≡◌ {A = Option ℕ} (Some r) (Some s) → r ≡ s
some_same e = cc

module _ (b : Automaton) (q : ℕ) where
  -- at a start of the rule the greatest rank, and none elsewhere
  pub first_of_start : (k : ℕ) → k ≡ suc (top_rank b) → b.start q ≡ true → (d : ℕ) → eqb k d ≡ (may_have b q (rank_held d) && is_first_rank b q (rank_held d))
  first_of_start k e s zero = rw (e, s) (eqb-suc-zero (top_rank b))
  first_of_start k e s (suc r) =
      alike (eqb k (suc r)) (may_have b q (Some r) && is_first_rank b q (Some r))
      (λ t. let is : r ≡ top_rank b = let u = eqb-true k (suc r) t in omega arith in
      and_from (may_have b q (Some r)) (is_first_rank b q (Some r))
      (may_have_from b q r (omega arith) (λ m. subst (λ x. is_even x ≡ true) (sym is) (top_even b)))
      (and_from (b.start q) (eqb r (top_rank b)) s (eq-eqb r (top_rank b) is)))
      (λ t. let p = and_parts (may_have b q (Some r)) (is_first_rank b q (Some r)) t in
      let u = and_parts (b.start q) (eqb r (top_rank b)) p.1 in
      let is = eqb-true r (top_rank b) u.1 in
      eq-eqb k (suc r) (omega arith))

  pub first_of_other : b.start q ≡ false → (d : ℕ) → d < 16 → bit 1 d ≡ (may_have b q (rank_held d) && is_first_rank b q (rank_held d))
  first_of_other s zero h = rw s refl
  first_of_other s (suc r) h =
      zero_only r h
      ∙ sym (and_right (may_have b q (Some r)) (is_first_rank b q (Some r)) (and_left (b.start q) (eqb r (top_rank b)) s))

  -- at any node each rank that a state may have, and beyond the rule's states none
  upto_may : (r : ℕ) → is_upto (suc (top_rank b)) (b.mark q) (suc r) ≡ may_have b q (Some r)
  upto_may r =
      ap (λ t. t && (leb (suc r) (suc (top_rank b)) && (not (b.mark q) || eqb (suc r % 2) 1))) (le-leb 1 (suc r) (omega arith))
      ∙ (ap (λ t. t && (not (b.mark q) || eqb (suc r % 2) 1)) (leb-suc-suc r (top_rank b))
      ∙ ap (λ t. leb r (top_rank b) && (not (b.mark q) || t)) (even_held (suc r)))

  pub node_of_state : q < b.states → (k : ℕ) → k ≡ suc (top_rank b) → (s : ℕ) → ((d : ℕ) → d < 16 → bit s d ≡ is_upto k (b.mark q) d)
      → (d : ℕ) → d < 16 → bit (bit_or 1 s) d ≡ (may_have b q (rank_held d) && is_within b q (rank_held d))
  node_of_state low k e s upto zero h = bit_of_or 1 s 0
  node_of_state low k e s upto (suc r) h =
      bit_of_or 1 s (suc r)
      ∙ (ap (λ t. t || bit s (suc r)) (zero_only r h)
      ∙ (upto (suc r) h ∙ (ap (λ x. is_upto x (b.mark q) (suc r)) e ∙ (upto_may r ∙ rw (lt-ltb q b.states low) (sym (and_true (may_have b q (Some r))))))))

  pub node_of_other : b.states ≤ q → (d : ℕ) → d < 16 → bit 1 d ≡ (may_have b q (rank_held d) && is_within b q (rank_held d))
  node_of_other high zero h = refl
  node_of_other high (suc r) h =
      zero_only r h ∙ sym (and_right (may_have b q (Some r)) (is_within b q (Some r)) (le-ltb q b.states high))

-- After a step: where the ranks before it are those that the digits tell, of which the greatest is allowed.
module _ (b : Automaton) (few : b.states ≤ 6) (ranks l q least : ℕ) (rank : ℕ → Option ℕ) (told : (p : ℕ) → rank_held (digit ranks p) ≡ rank p)
    (most : (p s : ℕ) → rank p ≡ Some s → (p < b.states) × (s ≤ top_rank b)) (lowest : Lowest b ranks l q least) where
  -- a digit tells a rank and one more
  digit_rank : (d s : ℕ) → rank_held d ≡ Some s → d ≡ suc s
  digit_rank zero s e = cc
  digit_rank (suc r) s e = cc

  rank_digit : (p s : ℕ) → rank p ≡ Some s → digit ranks p ≡ suc s
  rank_digit p s e = digit_rank (digit ranks p) s (told p ∙ e)

  digit_some : (p s : ℕ) → digit ranks p ≡ suc s → rank p ≡ Some s
  digit_some p s e = sym (told p) ∙ ap rank_held e

  reached : (p s : ℕ) → rank p ≡ Some s → b.step p l q ≡ true → (0 < least) × (least ≤ suc s)
  reached p s e step =
      let d = rank_digit p s e in
      let low = lowest.below p (omega (arith, (most p s e).0, few)) (omega arith) step in
      (low.0, omega (arith, low.1))

  -- the state from which the least digit comes
  source : (s : ℕ) → least ≡ suc s → (p : ℕ) × (p < b.states) × (rank p ≡ Some s) × (b.step p l q ≡ true)
  source s e =
      let t = lowest.there (omega arith) in
      let r = digit_some t.0 s (t.2 ∙ e) in
      (t.0, (most t.0 s r).0, r, t.3)

  none_before : least ≡ 0 → (p s : ℕ) → rank p ≡ Some s → b.step p l q ≡ true → ⊥
  none_before e p s is step = omega (arith, (reached p s is step).0)

  next_zero : (m : ℕ) → least ≡ m → is_upto m (b.mark q) 0 ≡ (may_have b q None && is_next_rank b rank l q None)
  next_zero zero e = sym (next_none b rank l q (none_before e))
  next_zero (suc s) e =
      let t = source s e in
      let f = follows_from b (λ p. is_some (rank p)) l t.0 q t.1 (ap is_some t.2) t.3 in
      rw f refl

  next_suc : (m r : ℕ) → least ≡ m → is_upto m (b.mark q) (suc r) ≡ (may_have b q (Some r) && is_next_rank b rank l q (Some r))
  next_suc zero r e =
      eqb-suc-zero r
      ∙ sym (false_from_ne_true (may_have b q (Some r) && is_next_rank b rank l q (Some r))
      (λ t. let p = and_parts (may_have b q (Some r)) (is_next_rank b rank l q (Some r)) t in
      let f = follows_some b (λ p. is_some (rank p)) l q (next_follows b rank l q r p.1) in
      let s = some_value (rank f.0) f.2 in none_before e f.0 s.0 s.1 f.3))
  next_suc (suc s) r e =
      let t = source s e in
      let odd = not (b.mark q) || eqb (suc r % 2) 1 in
      ap (λ t. t && (leb (suc r) (suc s) && odd)) (le-leb 1 (suc r) (omega arith))
      ∙ alike (leb (suc r) (suc s) && odd) (may_have b q (Some r) && is_next_rank b rank l q (Some r))
      (λ u. let v = and_parts (leb (suc r) (suc s)) odd u in
      let low = leb-true (suc r) (suc s) v.0 in
      and_from (may_have b q (Some r)) (is_next_rank b rank l q (Some r))
      (may_have_from b q r (omega (arith, (most t.0 s t.2).1)) (λ m. sym (even_held (suc r)) ∙ implied (b.mark q) (eqb (suc r % 2) 1) v.1 m))
      (next_some b rank l t.0 q s r t.1 t.2 t.3 (λ p k is step. omega (arith, (reached p k is step).1))))
      (λ u. let v = and_parts (may_have b q (Some r)) (is_next_rank b rank l q (Some r)) u in
      let n = next_ranked b rank l t.0 q s (Some r) v.1 t.1 t.2 t.3 in
      let same : r ≡ n.0 = some_same n.1 in
      and_from (leb (suc r) (suc s)) odd (le-leb (suc r) (suc s) (omega (arith, n.2)))
      (implied_from (b.mark q) (eqb (suc r % 2) 1) (λ m. even_held (suc r) ∙ marked_even b q r v.0 m)))

  pub next_of : (d : ℕ) → is_upto least (b.mark q) d ≡ (may_have b q (rank_held d) && is_next_rank b rank l q (rank_held d))
  next_of zero = next_zero least refl
  next_of (suc r) = next_suc least r refl

-- one more state that has a rank and steps to q, or one that does not
module _ (n : ℕ) (b : Automaton) (ranks l q least : ℕ) (low : LowestBelow n b ranks l q least) where
  pub lowest_with : (r : ℕ) → b.step n l q ≡ true → 0 < r → r ≤ digit ranks n → (0 < least → r ≤ least)
      → ((r ≡ digit ranks n) ⊎ ((0 < least) × (r ≡ least))) → LowestBelow (n + 1) b ranks l q r
  lowest_with r step some below before one =
      record {
        below =
            λ p h ranked s. ⊎_elim
            (λ (less : p < n). let k = low.below p less ranked s in (some, omega (arith, k.1, before k.0)))
            (λ (last : n ≤ p). let e : n ≡ p = omega arith in (some, subst (λ x. r ≤ digit ranks x) e below))
            (cases_lt p n);
        there =
            λ h. ⊎_elim (λ e. (n, omega arith, sym e, step))
            (λ (more, e). let t = low.there more in (t.0, omega (arith, t.1), t.2 ∙ sym e, t.3)) one;
      }

  pub lowest_without : (ltb 0 (digit ranks n) && b.step n l q) ≡ false → LowestBelow (n + 1) b ranks l q least
  lowest_without out =
      record {
        below =
            λ p h ranked s. ⊎_elim (λ (less : p < n). low.below p less ranked s)
            (λ (last : n ≤ p). let e : p ≡ n = omega arith in
            absurd (both_ways (ltb 0 (digit ranks n) && b.step n l q) out
            (and_from (ltb 0 (digit ranks n)) (b.step n l q) (lt-ltb 0 (digit ranks n) (subst (λ x. 0 < digit ranks x) e ranked))
            (subst (λ x. b.step x l q ≡ true) e s))))
            (cases_lt p n);
        there = λ h. let t = low.there h in (t.0, omega (arith, t.1), t.2, t.3);
      }

-- no state leads beyond the rule's
pub lowest_none : (b : Automaton) → Limits b → (ranks l q : ℕ) → b.states ≤ q → Lowest b ranks l q 0
lowest_none b limits ranks l q high =
    record { below = λ p h ranked s. absurd (omega (arith, (limits.steps p l q s).2, high)); there = λ h. absurd (omega (arith, h)) }
