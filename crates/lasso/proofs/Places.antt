-- The laws of positions: how the places follow each other, and which positions share a place.
use Rattle.std.proofs.Common.{◌≡◌, ℕ, suc, ◌+◌, ◌-◌, ◌*◌, ◌/◌, ◌%◌, ◌<◌, ◌≤◌, ltb, sym, refl, ap, ◌∙◌, ⊎_elim, mod-lt, mod-eq_of_lt, mul_assoc, mul_comm, arith}
use native.Mathlib.Nat.{mod_self, suc-mod, mul-sub, add-mul-mod_self_right}
use Rattle.std.proofs.lemmas.Nat.{div-add-mod'}
use Rattle.std.proofs.lemmas.Bool.{lt-ltb, le-ltb, ltb-true, cond_both, cond-true, cond-false, cases_lt}
use Rattle.lasso.specs.Agreement.{PlacesRepeat}
use Rattle.lasso.specs.Positions.{place, after}

-- below the length a position is its own place
pub place_first : (n j k : ℕ) → k < n → place n j k ≡ k
place_first n j k h = cond-true (ltb k n) k (j + (k - j) % (n - j)) (lt-ltb k n h)

-- from the loop place on, positions count round the loop
pub place_loop : (n j k : ℕ) → j < n → j ≤ k → place n j k ≡ j + (k - j) % (n - j)
place_loop n j k h g =
    ⊎_elim (λ (low : k < n). let e : (k - j) % (n - j) ≡ k - j = mod-eq_of_lt (let b : k - j < n - j = omega arith in b) in
    place_first n j k low ∙ (let f : k ≡ j + (k - j) % (n - j) = omega arith in f))
    (λ (high : n ≤ k). cond-false (ltb k n) k (j + (k - j) % (n - j)) (le-ltb k n high)) (cases_lt k n)

pub after_next : (n j p : ℕ) → suc p < n → after n j p ≡ suc p
after_next n j p h = cond-true (ltb (suc p) n) (suc p) j (lt-ltb (suc p) n h)

pub after_last : (n j p : ℕ) → n ≤ suc p → after n j p ≡ j
after_last n j p h = cond-false (ltb (suc p) n) (suc p) j (le-ltb (suc p) n h)

pub after_below : (n j p : ℕ) → j < n → after n j p < n
after_below n j p h = cond_both (ltb (suc p) n) (suc p) j (λ x. x < n) (λ e. ltb-true (suc p) n e) (λ e. h)

pub place_zero : (n j : ℕ) → j < n → place n j 0 ≡ 0
place_zero n j h = place_first n j 0 (omega arith)

pub place_below : (n j k : ℕ) → j < n → place n j k < n
place_below n j k h =
    ⊎_elim (λ (low : k < n). rw (place_first n j k low) low)
    (λ (high : n ≤ k). let positive : 0 < n - j = omega arith in
    let below : (k - j) % (n - j) < n - j = mod-lt (k - j) positive in rw (place_loop n j k h (omega arith)) (omega arith))
    (cases_lt k n)

-- one place further round the loop
lap_next : (n j t : ℕ) → j < n → t < n - j → j + suc t % (n - j) ≡ after n j (j + t)
lap_next n j t h b =
    ⊎_elim (λ (inner : suc t < n - j). let e : suc t % (n - j) ≡ suc t = mod-eq_of_lt inner in
    let s : suc (j + t) < n = omega arith in rw (e, after_next n j (j + t) s) (omega arith))
    (λ (outer : n - j ≤ suc t). let e : suc t ≡ n - j = omega arith in
    let s : n ≤ suc (j + t) = omega arith in rw (e, mod_self (n - j), after_last n j (j + t) s) (omega arith))
    (cases_lt (suc t) (n - j))

pub place_next : (n j k : ℕ) → j < n → place n j (suc k) ≡ after n j (place n j k)
place_next n j k h =
    ⊎_elim (λ (low : suc k < n). let s : k < n = omega arith in
    rw (place_first n j (suc k) low, place_first n j k s) (sym (after_next n j k low)))
    (λ (high : n ≤ suc k). let s : j ≤ k = omega arith in
    let e : suc k - j ≡ suc (k - j) = omega arith in
    rw (place_loop n j (suc k) h (omega arith), place_loop n j k h s, e, suc-mod (k - j) (n - j))
    (lap_next n j ((k - j) % (n - j)) h (mod-lt (k - j) (omega arith))))
    (cases_lt (suc k) n)

pub place_laps : (n j i c : ℕ) → j < n → j ≤ i → place n j (i + c * (n - j)) ≡ place n j i
place_laps n j i c h g =
    let e : i + c * (n - j) - j ≡ i - j + c * (n - j) = omega arith in
    rw (place_loop n j (i + c * (n - j)) h (omega arith), place_loop n j i h g, e, add-mul-mod_self_right (i - j) c (n - j)) refl

-- the same of two positions that are whole laps apart
pub place_apart : (n j i l c : ℕ) → j < n → j ≤ i → i ≤ l → l - i ≡ c * (n - j) → place n j l ≡ place n j i
place_apart n j i l c h g o e = let s : l ≡ i + c * (n - j) = omega arith in rw s (place_laps n j i c h g)

-- two numbers with the same remainder are whole laps apart
same_remainder : (a b p : ℕ) → a ≤ b → a % p ≡ b % p → (c : ℕ) × (b - a ≡ c * p)
same_remainder a b p h e =
    let s : (b / p - a / p) * p ≡ b / p * p - a / p * p =
    mul_comm (b / p - a / p) p ∙ (mul-sub p (b / p) (a / p) ∙ (let f = mul_comm p (b / p) in let g = mul_comm p (a / p) in cc)) in
    (b / p - a / p, omega (arith, div-add-mod' a p, div-add-mod' b p))

-- only positions in the loop share a place, and they are whole laps apart
pub place_same : (n j i l : ℕ) → j < n → i < l → place n j i ≡ place n j l → (j ≤ i) × ((c : ℕ) × (l - i ≡ c * (n - j)))
place_same n j i l h o e =
    let late : n ≤ l = ⊎_elim (λ (low : l < n). absurd (omega (arith, place_first n j i (omega arith), place_first n j l low, e))) (λ high. high) (cases_lt l n) in
    let far : place n j l ≡ j + (l - j) % (n - j) = place_loop n j l h (omega arith) in
    let looped : j ≤ i = ⊎_elim (λ (low : i < j). absurd (omega (arith, place_first n j i (omega arith), far, e))) (λ high. high) (cases_lt i j) in
    let near : place n j i ≡ j + (i - j) % (n - j) = place_loop n j i h looped in
    let same : (i - j) % (n - j) ≡ (l - j) % (n - j) = omega (arith, near, far, e) in
    let apart = same_remainder (i - j) (l - j) (n - j) (omega arith) same in
    (looped, (apart.0, omega (arith, apart.1)))

-- a position is its place and whole laps
pub place_back : (n j k : ℕ) → j < n → j ≤ k → (j ≤ place n j k) × (place n j k ≤ k) × ((c : ℕ) × (k - place n j k ≡ c * (n - j)))
place_back n j k h g =
    let e = place_loop n j k h g in
    let d = div-add-mod' (k - j) (n - j) in
    rw e (omega arith, omega arith, ((k - j) / (n - j), omega arith))

-- laps of laps are laps
pub laps_joined : (n c m d p : ℕ) → n ≡ c * m → m ≡ d * p → n ≡ (c * d) * p
laps_joined n c m d p e f = e ∙ (ap (λ x. c * x) f ∙ sym (mul_assoc c d p))

-- A lasso unrolled for whole laps, from a position of its loop on, has the same places.
pub place_unrolled : (n j from to d k : ℕ) → j < n → j ≤ from → from < to → to - from ≡ d * (n - j) → place n j (place to from k) ≡ place n j k
place_unrolled n j from to d k h late goes laps =
    ⊎_elim (λ (low : k < to). ap (place n j) (place_first to from k low))
    (λ (high : to ≤ k).
    let b = place_back to from k goes (omega arith) in
    let e = laps_joined (k - place to from k) b.2.0 (to - from) d (n - j) b.2.1 laps in
    sym (place_apart n j (place to from k) k (b.2.0 * d) h (omega (arith, b.0)) b.1 e))
    (cases_lt k to)

pub places_repeat : PlacesRepeat
places_repeat n j h =
    record {
      begins = place_zero n j h;
      stays = λ k. place_below n j k h;
      follows = λ k. place_next n j k h;
      laps = λ i c. place_laps n j i c h;
      same = λ i l. place_same n j i l h;
    }
