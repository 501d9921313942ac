-- Fields of bits: each is read from the number that holds them, and beyond the last all bits are 0.
use Rattle.std.proofs.Common.{◌≡◌, ℕ, zero, suc, ◌+◌, ◌-◌, ◌*◌, ◌/◌, ◌%◌, ◌^◌, ◌<◌, ◌≤◌, ◌∙◌, ⊎_elim, sym, ap, refl, subst, mul-zero, arith}
use Rattle.std.proofs.Math.Nat.{add-mul-div_right, add-mul-mod_self_right, div-eq_of_lt, div-lt_iff_lt-mul, div-one, add-zero, mod-eq_of_lt, mul_assoc, mul_comm, mul-suc, mul-le-mul_left}
use Rattle.std.proofs.Math.Pow.{pow_mono}
use Rattle.std.proofs.lemmas.Bool.{cases_eq}
use Rattle.std.proofs.lemmas.Nat.{mul-add-lt, pow_pos, pow-add, shr-shr}
use Rattle.rank.specs.Layout.{bits, fields}

above_split : (x d count from : ℕ) → x * 2 ^ (d + count + from) ≡ x * 2 ^ d * 2 ^ count * 2 ^ from
above_split x d count from = simp (pow-add, mul_assoc)

-- what is added from bit k on leaves the bits below as they are
pub bits_below : (v x k from count : ℕ) → from + count ≤ k → bits (v + x * 2 ^ k) from count ≡ bits v from count
bits_below v x k from count h =
    let e = above_split x (k - (from + count)) count from in
    let k_is : k - (from + count) + count + from ≡ k = omega arith in
    let shifted : x * 2 ^ k ≡ x * 2 ^ (k - (from + count)) * 2 ^ count * 2 ^ from = ap (λ y. x * 2 ^ y) (sym k_is) ∙ e in
    ap (λ y. (v + y) / 2 ^ from % 2 ^ count) shifted
    ∙ (ap (λ y. y % 2 ^ count) (add-mul-div_right v (x * 2 ^ (k - (from + count)) * 2 ^ count) (pow_pos from))
    ∙ add-mul-mod_self_right (v / 2 ^ from) (x * 2 ^ (k - (from + count))) (2 ^ count))

-- and has its own bits from there on
pub bits_above : (v x k from count : ℕ) → v < 2 ^ k → bits (v + x * 2 ^ k) (k + from) count ≡ bits x from count
bits_above v x k from count h =
    ap (λ y. y % 2 ^ count) (sym (shr-shr (v + x * 2 ^ k) k from))
    ∙ ap (λ y. y / 2 ^ from % 2 ^ count) (add-mul-div_right v x (pow_pos k) ∙ omega (arith, div-eq_of_lt h))

-- a number's first bits are the number itself
pub first_bits : (v count : ℕ) → v < 2 ^ count → bits v 0 count ≡ v
first_bits v count h = ap (λ y. y % 2 ^ count) (div-one v) ∙ mod-eq_of_lt h

pub bits_here : (v x k count : ℕ) → v < 2 ^ k → x < 2 ^ count → bits (v + x * 2 ^ k) k count ≡ x
bits_here v x k count h g =
    subst (λ from. bits (v + x * 2 ^ k) from count ≡ x) (add-zero k) (bits_above v x k 0 count h ∙ first_bits x count g)

-- a number has no bits beyond its size
pub no_bits : (v from count : ℕ) → v < 2 ^ from → bits v from count ≡ 0
no_bits v from count h = ap (λ y. y % 2 ^ count) (div-eq_of_lt h) ∙ mod-eq_of_lt (pow_pos count)

-- the bits below bit k are those of what is left below it
pub bits_low : (v k from count : ℕ) → from + count ≤ k → bits (v % 2 ^ k) from count ≡ bits v from count
bits_low v k from count h =
    let pos = pow_pos k in
    let halves : v ≡ v % 2 ^ k + v / 2 ^ k * 2 ^ k = omega arith in
    sym (ap (λ x. bits x from count) halves ∙ bits_below (v % 2 ^ k) (v / 2 ^ k) k from count h)

-- and what is above it are a number's last bits
pub bits_top : (v k count : ℕ) → v < 2 ^ (k + count) → bits v k count ≡ v / 2 ^ k
bits_top v k count h =
    let pos = pow_pos k in mod-eq_of_lt ((div-lt_iff_lt-mul pos).1 (omega (arith, pow-add 2 k count, mul_comm (2 ^ k) (2 ^ count))))

-- a number and another from bit k on
pub sum_small : (v x k j : ℕ) → v < 2 ^ k → x < 2 ^ j → v + x * 2 ^ k < 2 ^ (k + j)
sum_small v x k j h g = rw (pow-add 2 k j) (omega (arith, mul-add-lt x (2 ^ k) v (2 ^ j) g h))

module _ (width : ℕ) (f : ℕ → ℕ) where
  pub fields_small : (n : ℕ) → ((q : ℕ) → q < n → f q < 2 ^ width) → fields width f n < 2 ^ (width * n)
  fields_small zero small = pow_pos (width * 0)
  fields_small (suc n) small =
      rw (mul-suc width n)
      (sum_small (fields width f n) (f n) (width * n) width (fields_small n (λ q h. small q (omega arith))) (small n (omega arith)))

  pub field_at : (n q : ℕ) → ((q : ℕ) → q < n → f q < 2 ^ width) → q < n → bits (fields width f n) (width * q) width ≡ f q
  field_at zero q small h = absurd (omega arith)
  field_at (suc n) q small h =
      let below = fields_small n (λ q h. small q (omega arith)) in
      ⊎_elim (λ (e : q ≡ n). rw e (bits_here (fields width f n) (f n) (width * n) width below (small n (omega arith))))
      (λ other. let less : q < n = omega arith in
      bits_below (fields width f n) (f n) (width * n) (width * q) width (rw (← mul-suc width q) (mul-le-mul_left width less))
      ∙ field_at n q (λ q h. small q (omega arith)) less)
      (cases_eq q n)

  pub field_beyond : (n q : ℕ) → ((q : ℕ) → q < n → f q < 2 ^ width) → n ≤ q → bits (fields width f n) (width * q) width ≡ 0
  field_beyond n q small h =
      no_bits (fields width f n) (width * q) width
      (omega (arith, fields_small n small, pow_mono (mul-le-mul_left width h)))

  -- from place n on all fields are 0
  pub fields_zeros : (n k : ℕ) → ((q : ℕ) → n ≤ q → f q ≡ 0) → fields width f (k + n) ≡ fields width f n
  fields_zeros n zero zeros = ap (fields width f) (let e : 0 + n ≡ n = omega arith in e)
  fields_zeros n (suc k) zeros =
      let next : suc k + n ≡ suc (k + n) = omega arith in
      let none = zeros (k + n) (omega arith) in
      ap (fields width f) next ∙ (rw none (omega (arith, fields_zeros n k zeros)))

-- the same fields make the same number
pub fields_like : (width : ℕ) (f g : ℕ → ℕ) (n : ℕ) → ((q : ℕ) → q < n → f q ≡ g q) → fields width f n ≡ fields width g n
fields_like width f g zero same = refl
fields_like width f g (suc n) same =
    rw (same n (omega arith), fields_like width f g n (λ q h. same q (omega arith))) refl

-- a number is made of its fields
pub fields_own : (width v n : ℕ) → v < 2 ^ (width * n) → fields width (λ q. bits v (width * q) width) n ≡ v
fields_own width v zero h = let none : v < 1 = rw mul-zero at h in omega arith
fields_own width v (suc n) h =
    let k = width * n in
    let pos = pow_pos k in
    let last : bits v k width ≡ v / 2 ^ k = bits_top v k width (rw (← mul-suc width n) h) in
    let low : fields width (λ q. bits v (width * q) width) n ≡ v % 2 ^ k =
    fields_like width (λ q. bits v (width * q) width) (λ q. bits (v % 2 ^ k) (width * q) width) n
    (λ q less. sym (bits_low v k (width * q) width (rw (← mul-suc width q) (mul-le-mul_left width less))))
    ∙ fields_own width (v % 2 ^ k) n (omega arith) in
    rw (low, last) (omega arith)
