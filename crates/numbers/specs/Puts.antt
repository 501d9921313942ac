-- A function changed at one place.
use Rattle.std.specs.Prelude.{ℕ, cond, ◌==◌}

-- f with another value at one place
abbrev pub put : (ℕ → ℕ) → ℕ → ℕ → ℕ → ℕ
put f i x u = cond (u == i) x (f u)
