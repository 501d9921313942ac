-- How many numbers below a bound pass a test: at most all, and of one more that pass two are equal.
use Rattle.std.proofs.Common.{◌≡◌, ℕ, zero, suc, ◌<◌, ◌≤◌, Bool, true, ⊎_elim, arith}
use Rattle.std.proofs.lemmas.Bool.{cases_eq, cases_lt}
use Rattle.numbers.specs.Below.{count_below}
use Rattle.numbers.proofs.Pigeonhole.{pigeonhole}

pub count_most : (p : ℕ → Bool) (n : ℕ) → count_below n p ≤ n
count_most p zero = omega arith
count_most p (suc n) = grind (arith, count_most p n)

count_grows : (p : ℕ → Bool) (m n : ℕ) → m ≤ n → count_below m p ≤ count_below n p
count_grows p m zero h = grind arith
count_grows p m (suc n) h =
    ⊎_elim (λ (same : m ≡ suc n). rw same (omega arith)) (λ other. let c = count_grows p m n (omega arith) in grind arith) (cases_eq m (suc n))

-- how many pass below a number that passes, tells it from the others
count_before : (p : ℕ → Bool) (x n : ℕ) → x < n → p x ≡ true → count_below x p < count_below n p
count_before p x n h e =
    let c = count_grows p (suc x) n h in
    let s : count_below (suc x) p ≡ suc (count_below x p) = grind arith in
    omega arith

count_apart : (p : ℕ → Bool) (x y : ℕ) → p x ≡ true → p y ≡ true → count_below x p ≡ count_below y p → x ≡ y
count_apart p x y ex ey e =
    ⊎_elim (λ same. same)
    (λ differ. ⊎_elim (λ (low : x < y). absurd (omega (arith, count_before p x y low ex)))
    (λ high. absurd (omega (arith, count_before p y x (omega arith) ey))) (cases_lt x y))
    (cases_eq x y)

pub count_pigeon : (p : ℕ → Bool) (n : ℕ) (f : ℕ → ℕ) → ((i : ℕ) → i ≤ count_below n p → (f i < n) × (p (f i) ≡ true))
    → (i : ℕ) × (j : ℕ) × (i < j) × (j ≤ count_below n p) × (f i ≡ f j)
count_pigeon p n f within =
    let t = pigeonhole (count_below n p) (λ i. count_below (f i) p) (λ i h. let a = within i h in count_before p (f i) n a.0 a.1) in
    let i = within t.0 (omega (arith, t.2, t.3)) in
    let j = within t.1 t.3 in
    (t.0, t.1, t.2, t.3, count_apart p (f t.0) (f t.1) i.1 j.1 t.4)
