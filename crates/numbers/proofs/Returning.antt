-- A sequence of few values that has a property again and again comes back to one of its values, past a place with
-- the property: it is looked at after each such place, whole multiples of p apart, and among more looks than there are
-- values two see the same.
use Rattle.std.proofs.Common.{◌≡◌, ℕ, zero, suc, ◌+◌, ◌-◌, ◌*◌, ◌<◌, ◌≤◌, refl, ap, ◌∙◌, add-mul, zero-mul, le-mul_of_pos_right, arith}
use Rattle.numbers.specs.Returning.{Return}
use Rattle.numbers.proofs.Pigeonhole.{pigeonhole}

-- the same places for another sequence, with another property, and whatever else is known of how far they are apart
abbrev pub carried : {f : ℕ → ℕ} {P : ℕ → Type 0} {j p : ℕ} (r : Return f P j p) (g : ℕ → ℕ) (Q : ℕ → Type 0) (i q : ℕ) → i ≤ r.from → (n : ℕ) × (r.to - r.from ≡ n * q)
    → g r.from ≡ g r.to → ((k : ℕ) → k < r.to → P k → Q k) → Return g Q i q
carried r g Q i q late apart closes passes =
    record {
      from = r.from;
      to = r.to;
      late = late;
      goes = r.goes;
      apart = apart;
      closes = closes;
      passes = (r.passes.0, r.passes.1, r.passes.2, passes r.passes.0 r.passes.2 r.passes.3);
    }

-- wherever and however far apart
abbrev pub somewhere : {f : ℕ → ℕ} {P : ℕ → Type 0} {j p : ℕ} → Return f P j p → Return f P 0 1
somewhere {f} {P} r = carried r f P 0 1 (omega arith) (r.to - r.from, omega arith) r.closes (λ k h x. x)

module _ (P : ℕ → Type 0) (again : (k : ℕ) → (i : ℕ) × (k ≤ i) × P i) (j p : ℕ) where
  -- the place of look i
  look : ℕ → ℕ
  look zero = j
  look (suc i) = look i + suc ((again (look i)).0 - look i) * p

  look_next : (i : ℕ) → look (suc i) ≡ look i + suc ((again (look i)).0 - look i) * p
  unfolding look
  look_next i = refl

  look_late : (i : ℕ) → j ≤ look i
  unfolding look
  look_late zero = omega arith
  look_late (suc i) = omega (arith, look_late i)

  -- looks are multiples of p apart
  look_apart : (i d : ℕ) → (c : ℕ) × (look (i + d) ≡ look i + c * p)
  look_apart i zero = (0, omega (arith, zero-mul p, ap look (let e : i + 0 ≡ i = omega arith in e)))
  look_apart i (suc d) =
      let e : i + suc d ≡ suc (i + d) = omega arith in
      let s = look_apart i d in
      let b = suc ((again (look (i + d))).0 - look (i + d)) in
      let n : look (i + suc d) ≡ look (i + d) + b * p = ap look e ∙ look_next (i + d) in
      (s.0 + b, omega (arith, n, s.1, add-mul s.0 b p))

  -- the property comes after a look and before the next
  look_passes : 1 ≤ p → (i : ℕ) → (again (look i)).0 < look (suc i)
  look_passes h i = omega (arith, look_next i, (again (look i)).1, le-mul_of_pos_right (suc ((again (look i)).0 - look i)) h)

pub returns : (n : ℕ) (f : ℕ → ℕ) → ((k : ℕ) → f k < n) → (P : ℕ → Type 0) → ((k : ℕ) → (i : ℕ) × (k ≤ i) × P i) → (j p : ℕ) → 1 ≤ p → Return f P j p
returns n f below P again j p h =
    let x = look P again j p in
    let t = pigeonhole n (λ i. f (x i)) (λ k _. below (x k)) in
    let i = t.0 in
    let near = look_passes P again j p h i in
    let e : suc i + (t.1 - suc i) ≡ t.1 = omega (arith, t.2) in
    let s = look_apart P again j p (suc i) (t.1 - suc i) in
    let q : i + (t.1 - i) ≡ t.1 = omega (arith, t.2) in
    let r = look_apart P again j p i (t.1 - i) in
    let far : (again (x i)).0 < x t.1 = omega (arith, near, s.1, ap x e) in
    record {
      from = x i;
      to = x t.1;
      late = look_late P again j p i;
      goes = omega (arith, far, (again (x i)).1);
      apart = (r.0, omega (arith, r.1, ap x q));
      closes = t.4;
      passes = ((again (x i)).0, (again (x i)).1, far, (again (x i)).2);
    }
