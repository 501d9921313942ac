-- When a slip is refused, and which fault says so.
use Rattle.std.specs.Prelude.{ℕ, ◌<◌, ◌≤◌}
use Rattle.lasso.specs.declared.faults.LassoFault.{LassoFault}
use Rattle.lasso.specs.declared.faults.LassoFault.TheVariants.{Limits}
use Rattle.slip.specs.declared.kinds.Kind.{Kind}
use Rattle.slip.specs.Shapes.{stems}
use Rattle.slip.specs.declared.faults.SlipFault.{SlipFault}
use Rattle.slip.specs.declared.faults.SlipFault.TheVariants.{Lasso, Shape}

-- a lasso could not have so many elements
abbrev pub TooMany : ℕ → LassoFault → Type 0
TooMany n Limits = 131072 < n
TooMany n _ = ⊥

-- The number of records is refused before the loop place.
abbrev pub SlipRefused : Kind → ℕ → ℕ → SlipFault → Type 0
SlipRefused kind n stem (Lasso e) = TooMany n e
SlipRefused kind n stem Shape = (n ≤ 131072) × (stems kind n ≤ stem)
