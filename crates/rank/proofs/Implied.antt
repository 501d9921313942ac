-- Tests that ask for something only on a condition, and tests that answer alike.
use Rattle.std.proofs.Common.{◌≡◌, Bool, true, false, not, ◌||◌, refl, sym, ⊎_elim}
use Rattle.std.proofs.lemmas.Bool.{both_ways, cases_Bool, not-true, not_from_false, or_cases, or_left, or_right}

pub implied : (x y : Bool) → (not x || y) ≡ true → x ≡ true → y ≡ true
implied x y e h = ⊎_elim (λ out. absurd (both_ways x (not-true x out) h)) (λ asked. asked) (or_cases (not x) y e)

pub implied_from : (x y : Bool) → (x ≡ true → y ≡ true) → (not x || y) ≡ true
implied_from x y e =
    ⊎_elim (λ met. or_right (not x) y (e met)) (λ unmet. or_left (not x) y (not_from_false x unmet)) (cases_Bool x)

-- tests that imply each other answer alike
pub alike : (x y : Bool) → (x ≡ true → y ≡ true) → (y ≡ true → x ≡ true) → x ≡ y
alike true y there back = sym (there refl)
alike false true there back = back refl
alike false false there back = refl
