-- Digits of four bits: one more digit above others.
use Rattle.std.proofs.Common.{◌≡◌, ℕ, suc, ◌+◌, ◌*◌, ◌/◌, ◌%◌, ◌^◌, ◌<◌, Bool, true, ltb, List, get_or, refl, sym, ap, ◌∙◌, subst, ⊎_elim, arith}
use Rattle.std.proofs.Math.Nat.{mul-suc}
use Rattle.std.proofs.lemmas.Bool.{and_from, and_parts, cases_eq, lt-ltb, ltb-true}
use Rattle.std.proofs.lemmas.Nat.{div-mul-add, mod-mul-add, pow_pos, pow-add}
use Rattle.numbers.specs.Bits.{bit}
use Rattle.numbers.specs.Below.{all_below}
use Rattle.numbers.proofs.Below.{all_at, all_from}
use Rattle.rank.proofs.Fields.{bits_low, bits_top, sum_small}
use Rattle.ranked.specs.Digits.{digit, drawn}

-- the size of k digits
pub four_more : (k : ℕ) → 2 ^ (4 * suc k) ≡ 2 ^ (4 * k) * 16
four_more k = rw (mul-suc 4 k, pow-add 2 (4 * k) 4) refl

digit_low : (v k q : ℕ) → q < k → digit (v % 2 ^ (4 * k)) q ≡ digit v q
digit_low v k q h = bits_low v (4 * k) (4 * q) 4 (omega arith)

-- the last of k + 1 digits
digit_last : (v k : ℕ) → v < 2 ^ (4 * suc k) → digit v k ≡ v / 2 ^ (4 * k)
digit_last v k h = bits_top v (4 * k) 4 (rw (← mul-suc 4 k) h)

module _ (sets : List ℕ) where
  abbrev fits : ℕ → ℕ → Bool
  fits v q = bit (get_or sets q 0) (digit v q)

  pub drawn_small : (k v : ℕ) → drawn sets k v ≡ true → v < 2 ^ (4 * k)
  drawn_small k v e = ltb-true v (2 ^ (4 * k)) (and_parts (ltb v (2 ^ (4 * k))) (all_below k (fits v)) e).0

  pub drawn_at : (k v : ℕ) → drawn sets k v ≡ true → (q : ℕ) → q < k → fits v q ≡ true
  drawn_at k v e = all_at k (fits v) (and_parts (ltb v (2 ^ (4 * k))) (all_below k (fits v)) e).1

  pub drawn_from : (k v : ℕ) → v < 2 ^ (4 * k) → ((q : ℕ) → q < k → fits v q ≡ true) → drawn sets k v ≡ true
  drawn_from k v h each = and_from (ltb v (2 ^ (4 * k))) (all_below k (fits v)) (lt-ltb v (2 ^ (4 * k)) h) (all_from k (fits v) each)

  pub drawn_split : (k v : ℕ) → drawn sets (suc k) v ≡ true → (bit (get_or sets k 0) (v / 2 ^ (4 * k)) ≡ true) × (drawn sets k (v % 2 ^ (4 * k)) ≡ true)
  drawn_split k v e =
      let small = drawn_small (suc k) v e in
      let pos = pow_pos (4 * k) in (
        subst (λ x. bit (get_or sets k 0) x ≡ true) (digit_last v k small) (drawn_at (suc k) v e k (omega arith)),
        drawn_from k (v % 2 ^ (4 * k)) (omega arith)
            (λ q h. subst (λ x. bit (get_or sets q 0) x ≡ true) (sym (digit_low v k q h)) (drawn_at (suc k) v e q (omega arith))),
      )

  pub drawn_join : (k e r : ℕ) → e < 16 → bit (get_or sets k 0) e ≡ true → drawn sets k r ≡ true → drawn sets (suc k) (e * 2 ^ (4 * k) + r) ≡ true
  drawn_join k e r h b m =
      let small = drawn_small k r m in
      let v = e * 2 ^ (4 * k) + r in
      let top : v / 2 ^ (4 * k) ≡ e = div-mul-add e (2 ^ (4 * k)) r small in
      let low : v % 2 ^ (4 * k) ≡ r = mod-mul-add e (2 ^ (4 * k)) r small in
      let within : v < 2 ^ (4 * suc k) = omega (arith, four_more k, sum_small r e (4 * k) 4 small h, pow-add 2 (4 * k) 4) in
      drawn_from (suc k) v within
      (λ q below. ⊎_elim
      (λ (same : q ≡ k). rw (same, digit_last v k within, top) b)
      (λ other. let less : q < k = omega arith in
      subst (λ x. bit (get_or sets q 0) x ≡ true) (ap (λ x. digit x q) (sym low) ∙ digit_low v k q less) (drawn_at k r m q less))
      (cases_eq q k))
