-- The least number, not below a given one, that passes a test.
use Rattle.std.specs.Prelude.{◌≡◌, ℕ, ◌<◌, ◌≤◌, Bool, true, Some, None, Option, ◌≢◌}

abbrev pub Least : (ℕ → Bool) → ℕ → Option ℕ → Type 0
Least P from None = (v : ℕ) → from ≤ v → P v ≢ true
Least P from (Some v) = (from ≤ v) × (P v ≡ true) × ((w : ℕ) → from ≤ w → w < v → P w ≢ true)
