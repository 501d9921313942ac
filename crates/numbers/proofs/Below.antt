-- What tests of all numbers below a bound say, and what makes them true.
use Rattle.std.proofs.Common.{◌≡◌, ℕ, zero, suc, ◌<◌, Bool, true, false, ⊎_elim, refl, arith}
use Rattle.std.specs.Prelude.{Decides}
use Rattle.std.proofs.lemmas.Bool.{and_cases, true≢false}
use Rattle.std.proofs.lemmas.Bool.Decides.{Decides-below_and, Decides-below_or}
use Rattle.numbers.specs.Below.{all_below, any_below}

-- a test decides that it is true
pub itself : (b : Bool) → Decides b (b ≡ true)
itself b = (λ e. e, λ e. e)

all_decides : (n : ℕ) (p : ℕ → Bool) → Decides (all_below n p) ((k : ℕ) → k < n → p k ≡ true)
all_decides n p = Decides-below_and p (λ k. p k ≡ true) (λ m. all_below m p) (λ k. itself (p k)) refl (λ _. refl) n

any_decides : (n : ℕ) (p : ℕ → Bool) → Decides (any_below n p) ((k : ℕ) × (k < n) × (p k ≡ true))
any_decides n p = Decides-below_or p (λ k. p k ≡ true) (λ m. any_below m p) (λ k. itself (p k)) refl (λ _. refl) n

pub all_at : (n : ℕ) (p : ℕ → Bool) → all_below n p ≡ true → (k : ℕ) → k < n → p k ≡ true
all_at n p = (all_decides n p).0

pub all_from : (n : ℕ) (p : ℕ → Bool) → ((k : ℕ) → k < n → p k ≡ true) → all_below n p ≡ true
all_from n p = (all_decides n p).1

pub any_at : (n : ℕ) (p : ℕ → Bool) → any_below n p ≡ true → (k : ℕ) × (k < n) × (p k ≡ true)
any_at n p = (any_decides n p).0

pub any_from : (n : ℕ) (p : ℕ → Bool) (k : ℕ) → k < n → p k ≡ true → any_below n p ≡ true
any_from n p k h e = (any_decides n p).1 (k, h, e)

-- where not all pass, some number does not
pub all_fails : (n : ℕ) (p : ℕ → Bool) → all_below n p ≡ false → (k : ℕ) × (k < n) × (p k ≡ false)
all_fails zero p e = absurd (true≢false e)
all_fails (suc n) p e =
    ⊎_elim (λ last. (n, omega arith, last)) (λ before. let a = all_fails n p before in (a.0, omega (arith, a.1), a.2))
    (and_cases (p n) (all_below n p) e)
