-- Sets of small numbers as the bits of a number, bit 0 the lowest.
use Rattle.std.specs.Prelude.{◌≡◌, ℕ, ◌/◌, ◌%◌, ◌^◌, ◌≤◌, Bool, false, ◌==◌}

-- q is a member of the set that the bits of x are
abbrev pub bit : ℕ → ℕ → Bool
bit x q = x / 2 ^ q % 2 == 1

-- the set has no member at or beyond n
abbrev pub Below : ℕ → ℕ → Type 0
Below n x = (q : ℕ) → n ≤ q → bit x q ≡ false
