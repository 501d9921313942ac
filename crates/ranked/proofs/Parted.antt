-- The least number that passes, where a number is a top and a rest below w, and the top tells which rests pass.
use Rattle.std.proofs.Common.{◌≡◌, ℕ, suc, ◌+◌, ◌*◌, ◌/◌, ◌%◌, ◌<◌, ◌≤◌, Bool, true, ◌&&◌, Some, None, subst, ⊎_elim, refl, arith}
use Rattle.std.proofs.Math.Nat.{mul-le-mul_right, suc-mul}
use Rattle.std.proofs.lemmas.Bool.{and_from, and_parts, cases_lt}
use Rattle.numbers.specs.Least.{Least}

module _ (w : ℕ) (pos : 0 < w) (P A : ℕ → Bool) (B : ℕ → ℕ → Bool)
    (split : (y : ℕ) → P y ≡ true → (A (y / w) ≡ true) × (B (y / w) (y % w) ≡ true))
    (join : (f r : ℕ) → A f ≡ true → B f r ≡ true → P (f * w + r) ≡ true)
    (small : (f r : ℕ) → B f r ≡ true → r < w) where
  -- numbers of a smaller top are smaller
  rows : (f e : ℕ) → f < e → f * w + w ≤ e * w
  rows f e h = let le : suc f ≤ e = omega arith in omega (arith, mul-le-mul_right w le, suc-mul f w)

  top_from : (d y : ℕ) → d * w ≤ y → d ≤ y / w
  top_from d y low = ⊎_elim (λ (h : y / w < d). omega (arith, rows (y / w) d h)) (λ (h : d ≤ y / w). h) (cases_lt (y / w) d)

  top_to : (d y : ℕ) → y < d * w + w → y / w ≤ d
  top_to d y high = ⊎_elim (λ (h : d < y / w). omega (arith, rows d (y / w) h)) (λ (h : y / w ≤ d). h) (cases_lt d (y / w))

  -- what passes has a top that passes, and a rest that passes with it
  rest_of : (d y : ℕ) → y / w ≡ d → P y ≡ true → (A d ≡ true) × (B d (y % w) ≡ true) × (y ≡ d * w + y % w)
  rest_of d y e p =
      let s = split y p in
      let same : y ≡ y / w * w + y % w = omega arith in
      (subst (λ x. A x ≡ true) e s.0, subst (λ x. B x (y % w) ≡ true) e s.1, subst (λ x. y ≡ x * w + y % w) e same)

  -- the top that is there, with the least rest
  pub least_here : (d r s : ℕ) → Least (λ x. A d && B d x) r (Some s) → Least P (d * w + r) (Some (d * w + s))
  least_here d r s (low, ab, none) =
      let p = and_parts (A d) (B d s) ab in
      let fits = small d s p.1 in (
        omega arith,
        join d s p.0 p.1,
        λ y from below p. let t : y / w ≡ d = omega (arith, top_from d y (omega arith), top_to d y (omega arith)) in
            let q = rest_of d y t p in
            none (y % w) (omega (arith, q.2)) (omega (arith, q.2)) (and_from (A d) (B d (y % w)) q.0 q.1),
      )

  -- where no rest from r on goes with it, some later top with the least rest of all
  module _ (d r : ℕ) (past : Least (λ x. A d && B d x) r None) where
    later : (y : ℕ) → d * w + r ≤ y → P y ≡ true → d < y / w
    later y from p =
        ⊎_elim (λ (h : d < y / w). h)
        (λ (h : y / w ≤ d). let t : y / w ≡ d = omega (arith, top_from d y (omega arith)) in
        let q = rest_of d y t p in absurd (past (y % w) (omega (arith, q.2)) (and_from (A d) (B d (y % w)) q.0 q.1)))
        (cases_lt d (y / w))

    pub least_next : (f s : ℕ) → r < w → Least A (d + 1) (Some f) → Least (B f) 0 (Some s) → Least P (d * w + r) (Some (f * w + s))
    least_next f s room (low, a, least) (_, b, first) =
        let fits = small f s b in (
          omega (arith, rows d f (omega arith)),
          join f s a b,
          λ y from below p. let t = later y from p in
              let q = rest_of (y / w) y refl p in
              let top = top_to f y (omega arith) in
              ⊎_elim (λ (h : y / w < f). least (y / w) (omega arith) h q.0)
              (λ (h : f ≤ y / w). let e : y / w ≡ f = omega arith in
              let u = rest_of f y e p in first (y % w) (omega arith) (omega (arith, u.2)) u.1)
              (cases_lt (y / w) f),
        )

    pub least_none : Least A (d + 1) None → Least P (d * w + r) None
    least_none none = λ y from p. none (y / w) (omega (arith, later y from p)) (split y p).0

    -- no top has a rest
    pub least_empty : ((f : ℕ) → A f ≡ true → Least (B f) 0 None) → Least P (d * w + r) None
    least_empty none = λ y from p. let s = split y p in none (y / w) s.0 (y % w) (omega arith) s.1
