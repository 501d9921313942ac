-- Bits of a union of sets and of a set with one number more; members of a set, and the least that is left.
use Rattle.std.proofs.Common.{◌≡◌, ℕ, ◌+◌, ◌-◌, ◌/◌, ◌%◌, ◌^◌, ◌<◌, ◌≤◌, ◌≢◌, ◌||◌, Bool, true, false, eqb, max, Some, None, sym, refl, ap, ◌∙◌, subst, ⊎_elim, w32, arith}
use Rattle.std.proofs.Math.Bool.{or_comm}
use Rattle.std.proofs.Math.Nat.{div-eq_of_lt}
use Rattle.std.proofs.Math.Pow.{pow_mono}
use Rattle.std.proofs.lemmas.Bool.{both_ways, cases_eq, cases_lt, eq-eqb, false_from_ne_true, ne_eqb}
use Rattle.std.proofs.lemmas.Bool.Decides.{nat_tests}
use Rattle.std.proofs.lemmas.Nat.{shr-shr}
use Rattle.std.proofs.lemmas.Nat.Bits.{bit_at_or, bit_at-lt, bit_at-pow_same, bit_at-pow_other, bit_at-trailing_zeros, bit_at-zero}
use lib.Bits.{bit_or}
use lib.Count.{count_trailing_zeros}
use Rattle.numbers.specs.Bits.{bit, Below}
use Rattle.numbers.specs.Least.{Least}

or_digit : (u v : ℕ) → u < 2 → v < 2 → eqb (max u v) 1 ≡ (eqb u 1 || eqb v 1)
or_digit u v h k = grind (arith, nat_tests)

pub bit_of_or : (a b q : ℕ) → bit (bit_or a b) q ≡ (bit a q || bit b q)
bit_of_or a b q = ap (λ x. eqb x 1) (bit_at_or a b q) ∙ or_digit (a / 2 ^ q % 2) (b / 2 ^ q % 2) (bit_at-lt a q) (bit_at-lt b q)

pub bit_pow : (q i : ℕ) → bit (2 ^ q) i ≡ eqb q i
bit_pow q i =
    ⊎_elim
    (λ (e : q ≡ i). rw (← e, eq-eqb q q refl) (ap (λ x. eqb x 1) (bit_at-pow_same q)))
    (λ (e : q ≡ i → ⊥). rw (ne_eqb q i e) (ap (λ x. eqb x 1) (bit_at-pow_other q i (λ f. e (sym f)))))
    (cases_eq q i)

pub bit_with : (x q i : ℕ) → bit (bit_or x (2 ^ q)) i ≡ (eqb q i || bit x i)
bit_with x q i = bit_of_or x (2 ^ q) i ∙ ap (λ y. bit x i || y) (bit_pow q i) ∙ or_comm (bit x i) (eqb q i)

-- a number has no members beyond its size
pub beyond_false : (s n : ℕ) → s < 2 ^ n → Below n s
beyond_false s n h q le = ap (λ x. eqb (x % 2) 1) (div-eq_of_lt (let b : s < 2 ^ q = omega (arith, h, pow_mono le) in b))

pub member_below : (s n q : ℕ) → s < 2 ^ n → bit s q ≡ true → q < n
member_below s n q h m =
    ⊎_elim (λ (low : q < n). low) (λ high. absurd (both_ways (bit s q) (beyond_false s n h q high) m)) (cases_lt q n)

-- what answers as a test below 32, where nothing else passes the test, answers so everywhere
pub everywhere : (s : ℕ) (t : ℕ → Bool) → s < 2 ^ 32 → ((q : ℕ) → q < 32 → bit s q ≡ t q) → ((q : ℕ) → t q ≡ true → q < 32)
    → (q : ℕ) → bit s q ≡ t q
everywhere s t small below passes q =
    ⊎_elim (below q) (λ (high : 32 ≤ q). beyond_false s 32 small q high ∙ sym (false_from_ne_true (t q) (λ e. omega (arith, passes q e))))
    (cases_lt q 32)

-- the members of a shifted set
shifted : (s from i : ℕ) → bit (s / 2 ^ from) i ≡ bit s (from + i)
shifted s from i = ap (λ x. eqb (x % 2) 1) (shr-shr s from i)

pub none_false : (q : ℕ) → bit 0 q ≡ false
none_false q = ap (λ x. eqb x 1) (bit_at-zero q)

-- where the shifted set is empty, no member is left
pub least_none : (s from : ℕ) → s / 2 ^ from ≡ 0 → Least (bit s) from None
least_none s from e =
    λ v low m. let i : from + (v - from) ≡ v = omega arith in
    both_ways (bit s v)
    (subst (λ x. bit s x ≡ false) i (sym (shifted s from (v - from)) ∙ (ap (λ x. bit x (v - from)) e ∙ none_false (v - from)))) m

-- nor where all have been passed over
pub least_past : (s from : ℕ) → s < 2 ^ 32 → 32 ≤ from → Least (bit s) from None
least_past s from small past = λ v low m. both_ways (bit s v) (beyond_false s 32 small v (omega arith)) m

-- else the lowest bit that is set is the least that is left
pub least_some : (s from : ℕ) → s < 2 ^ 32 → s / 2 ^ from ≢ 0 → s / 2 ^ from < 2 ^ 32
    → Least (bit s) from (Some (from + count_trailing_zeros 32 (s / 2 ^ from)))
least_some s from small some fits =
    let r = s / 2 ^ from in
    let z = count_trailing_zeros 32 r in
    let t = bit_at-trailing_zeros w32 r (omega arith) fits in (
      omega arith,
      sym (shifted s from z) ∙ ap (λ x. eqb x 1) t.1,
      λ w low less m. let i : from + (w - from) ≡ w = omega arith in
          both_ways (bit s w)
          (subst (λ x. bit s x ≡ false) i (sym (shifted s from (w - from)) ∙ ap (λ x. eqb x 1) (t.2 (w - from) (omega arith)))) m,
    )

-- a set that is not empty has a member
pub some_member : (s : ℕ) → s < 2 ^ 32 → s ≢ 0 → (q : ℕ) × (bit s q ≡ true)
some_member s small some =
    let t = bit_at-trailing_zeros w32 s (omega arith) small in (count_trailing_zeros 32 s, ap (λ x. eqb x 1) t.1)
