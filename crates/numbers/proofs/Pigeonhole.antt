-- Among n + 1 numbers below n two are equal.
use Rattle.std.proofs.Common.{◌≡◌, ℕ, zero, suc, ◌<◌, ◌≤◌, cond, eqb, ◌⊎◌, inl, inr, ⊎_elim, arith}
use Rattle.std.proofs.lemmas.Bool.{cases_eq}
use Rattle.std.proofs.lemmas.Bool.Decides.{nat_tests}

-- x is the value of f somewhere below n, or nowhere there
pub find_value : (f : ℕ → ℕ) (x n : ℕ) → ((i : ℕ) × (i < n) × (f i ≡ x)) ⊎ ((i : ℕ) → i < n → f i ≡ x → ⊥)
find_value f x zero = inr (λ i h e. omega arith)
find_value f x (suc n) =
    ⊎_elim (λ found. inl (found.0, omega arith, found.2))
    (λ none. ⊎_elim (λ (e : f n ≡ x). inl (n, omega arith, e))
    (λ differs. inr (λ i h e. ⊎_elim (λ (same : i ≡ n). differs (rw same at e)) (λ other. none i (omega arith) e) (cases_eq i n)))
    (cases_eq (f n) x))
    (find_value f x n)

-- two different places up to n with one value
abbrev pub Twice : ℕ → (ℕ → ℕ) → Type 0
Twice n f = (i : ℕ) × (j : ℕ) × (i < j) × (j ≤ n) × (f i ≡ f j)

-- f with the value m replaced by x
replaced : ℕ → ℕ → (ℕ → ℕ) → ℕ → ℕ
replaced m x f k = cond (eqb (f k) m) x (f k)

replaced_below : (m x : ℕ) (f : ℕ → ℕ) (k : ℕ) → f k < suc m → x < suc m → (f k ≡ x → ⊥) → replaced m x f k < m
unfolding replaced
replaced_below m x f k h g ne = grind (arith, nat_tests)

replaced_same : (m x : ℕ) (f : ℕ → ℕ) (i j : ℕ) → (f i ≡ x → ⊥) → (f j ≡ x → ⊥) → replaced m x f i ≡ replaced m x f j → f i ≡ f j
unfolding replaced
replaced_same m x f i j ni nj e = grind (arith, nat_tests)

pub pigeonhole : (n : ℕ) (f : ℕ → ℕ) → ((k : ℕ) → k ≤ n → f k < n) → Twice n f
pigeonhole zero f below = absurd (let h = below 0 (omega arith) in omega arith)
pigeonhole (suc m) f below =
    ⊎_elim (λ found. (found.0, suc m, found.1, omega arith, found.2))
    (λ none.
    let smaller : (k : ℕ) → k ≤ m → replaced m (f (suc m)) f k < m =
    λ k h. replaced_below m (f (suc m)) f k (below k (omega arith)) (below (suc m) (omega arith)) (none k (omega arith)) in
    let t = pigeonhole m (replaced m (f (suc m)) f) smaller in
    (t.0, t.1, t.2, omega (arith, t.3), replaced_same m (f (suc m)) f t.0 t.1 (none t.0 (omega (arith, t.2, t.3))) (none t.1 (omega (arith, t.3))) t.4))
    (find_value f (f (suc m)) (suc m))
