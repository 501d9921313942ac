-- Sequences that come back.
use Rattle.std.specs.Prelude.{◌≡◌, ℕ, ◌-◌, ◌*◌, ◌<◌, ◌≤◌}

-- At or after place j the sequence f is twice at the same, a multiple of p places apart, and passes a place with the property P
-- between.
pub record Return (f : ℕ → ℕ) (P : ℕ → Type 0) (j p : ℕ) : Type 0 where
  pub from : ℕ
  pub to : ℕ
  pub late : j ≤ from
  pub goes : from < to
  pub apart : (n : ℕ) × (to - from ≡ n * p)
  pub closes : f from ≡ f to
  pub passes : (k : ℕ) × (from ≤ k) × (k < to) × P k
