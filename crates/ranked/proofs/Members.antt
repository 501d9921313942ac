-- A set of numbers below q that were asked, and one answer more.
use Rattle.std.proofs.Common.{◌≡◌, ℕ, ◌+◌, ◌<◌, ◌||◌, Bool, true, false, eqb, sym, ap, ◌∙◌, subst, ⊎_elim, refl, arith}
use Rattle.std.proofs.lemmas.Bool.{cases_lt, eq-eqb, ne_eqb, or_left}
use Rattle.numbers.specs.Bits.{bit, Below}

module _ (P : ℕ → Bool → Type 0) (s q : ℕ) (below : Below q s) (told : (k : ℕ) → k < q → P k (bit s k)) where
  pub told_with : (t : ℕ) → ((i : ℕ) → bit t i ≡ (eqb q i || bit s i)) → P q true → Below (q + 1) t × ((k : ℕ) → k < q + 1 → P k (bit t k))
  told_with t is pass = (
    λ k h. is k ∙ ap (λ b. b || bit s k) (ne_eqb q k (omega arith)) ∙ below k (omega arith),
    λ k h. ⊎_elim
        (λ (low : k < q). subst (P k) (sym (is k ∙ ap (λ b. b || bit s k) (ne_eqb q k (omega arith)))) (told k low))
        (λ high. let e : q ≡ k = omega arith in
        subst (λ x. P x (bit t x)) e (subst (P q) (sym (is q ∙ or_left (eqb q q) (bit s q) (eq-eqb q q refl))) pass))
        (cases_lt k q),
  )

  pub told_without : P q false → Below (q + 1) s × ((k : ℕ) → k < q + 1 → P k (bit s k))
  told_without fail = (
    λ k h. below k (omega arith),
    λ k h. ⊎_elim (told k)
        (λ high. let e : q ≡ k = omega arith in
        subst (λ x. P x (bit s x)) e (subst (P q) (sym (below q (omega arith))) fail))
        (cases_lt k q),
  )
