-- Which loop places go with a kind of slip and a number of records.
use Rattle.std.specs.Prelude.{ℕ, ◌<◌, ◌≤◌}
use Rattle.slip.specs.declared.kinds.Kind.{Kind}
use Rattle.slip.specs.declared.kinds.Kind.TheVariants.{Keep, Break}

-- the loop place is below this number: it is 0 for keep, and the place of one of the n records for break
abbrev pub stems : Kind → ℕ → ℕ
stems Keep n = 1
stems Break n = n

pub record Shaped (kind : Kind) (n stem : ℕ) : Type 0 where
  pub placed : stem < stems kind n
  pub few : n ≤ 131072
