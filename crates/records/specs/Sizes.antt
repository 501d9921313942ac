-- How many records a work table may have.
use Rattle.std.specs.Prelude.{ℕ, ◌≤◌}
use Rattle.records.specs.declared.faults.SearchFault.{SearchFault}
use Rattle.records.specs.declared.faults.SearchFault.TheVariants.{Table}

-- a work table may have so many records
pub record Allowed (n : ℕ) : Type 0 where
  pub some_records : 1 ≤ n
  pub few_records : n ≤ 65536

abbrev pub TableRefused : ℕ → SearchFault → Type 0
TableRefused n Table = Allowed n → ⊥
TableRefused n _ = ⊥
