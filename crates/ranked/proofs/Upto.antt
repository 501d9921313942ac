-- Small sets, by their bits.
use Rattle.std.proofs.Common.{◌≡◌, ℕ, zero, suc, ◌+◌, ◌-◌, ◌*◌, ◌%◌, ◌^◌, ◌<◌, Bool, true, false, eqb, refl, arith}
use Rattle.std.specs.Bool.{beq}
use Rattle.std.specs.Cmp.{booleans_Decides}
use lib.Bits.{bit_and}
use Rattle.numbers.specs.Bits.{bit}
use Rattle.numbers.specs.Below.{all_below}
use Rattle.numbers.proofs.Below.{all_at}
use Rattle.ranked.specs.Following.{is_upto}

-- the digits 1 to m
abbrev all_upto : ℕ → ℕ
all_upto m = 1 * 2 ^ (m + 1) % 4294967296 - 2

abbrev odd_at : ℕ → ℕ → Bool
odd_at m d = beq (bit (bit_and (all_upto (suc m)) 43690) d) (is_upto (suc m) true d)

abbrev any_at : ℕ → ℕ → Bool
any_at m d = beq (bit (all_upto (suc m)) d) (is_upto (suc m) false d)

odd_told : all_below 15 (λ m. all_below 16 (odd_at m)) ≡ true
odd_told = refl

any_told : all_below 15 (λ m. all_below 16 (any_at m)) ≡ true
any_told = refl

pub upto_odd : (m : ℕ) → (m ≡ 0 → ⊥) → m < 16 → (d : ℕ) → d < 16 → bit (bit_and (all_upto m) 43690) d ≡ is_upto m true d
upto_odd zero some h d low = absurd (some refl)
upto_odd (suc m) some h d low =
    (booleans_Decides (bit (bit_and (all_upto (suc m)) 43690) d) (is_upto (suc m) true d)).0
    (all_at 16 (odd_at m) (all_at 15 (λ m. all_below 16 (odd_at m)) odd_told m (omega arith)) d low)

pub upto_any : (m : ℕ) → (m ≡ 0 → ⊥) → m < 16 → (d : ℕ) → d < 16 → bit (all_upto m) d ≡ is_upto m false d
upto_any zero some h d low = absurd (some refl)
upto_any (suc m) some h d low =
    (booleans_Decides (bit (all_upto (suc m)) d) (is_upto (suc m) false d)).0
    (all_at 16 (any_at m) (all_at 15 (λ m. all_below 16 (any_at m)) any_told m (omega arith)) d low)

zero_at : ℕ → Bool
zero_at d = beq (bit 1 d) (eqb d 0)

zero_told : all_below 16 zero_at ≡ true
unfolding zero_at
zero_told = refl

-- only 0
pub bit_zero : (d : ℕ) → d < 16 → bit 1 d ≡ eqb d 0
unfolding zero_at
bit_zero d low = (booleans_Decides (bit 1 d) (eqb d 0)).0 (all_at 16 zero_at zero_told d low)

six_at : ℕ → Bool
six_at q = bit 63 q

six_told : all_below 6 six_at ≡ true
unfolding six_at
six_told = refl

-- the states of the largest rule
pub bit_six : (q : ℕ) → q < 6 → bit 63 q ≡ true
unfolding six_at
bit_six q low = all_at 6 six_at six_told q low
