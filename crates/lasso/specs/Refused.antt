-- When a lasso is refused, and which fault says so.
use Rattle.std.specs.Prelude.{ℕ, ◌<◌, ◌≤◌, List, length, slice_index}
use Rattle.lasso.specs.declared.faults.LassoFault.{LassoFault}
use Rattle.lasso.specs.declared.faults.LassoFault.TheVariants.{Limits, Letter}
use Rattle.lasso.specs.Positions.{IsLasso}
use Rattle.lasso.specs.declared.positions.Lasso.{Lasso}

-- a lasso of n elements with a stem of j
abbrev pub LassoRefused : ℕ → ℕ → LassoFault → Type 0
LassoRefused n j Limits = IsLasso n j → ⊥
LassoRefused n j _ = ⊥

-- the same of elements that are lent
abbrev pub IsRefused : {A : Type 0} → Lasso A → LassoFault → Type 0
IsRefused l = LassoRefused (length l.elements.now) l.stem

-- a word for charts of so many letters
abbrev pub WordRefused : ℕ → List ℕ → ℕ → LassoFault → Type 0
WordRefused letters word stem Limits = IsLasso (length word) stem → ⊥
WordRefused letters word stem Letter =
    IsLasso (length word) stem × ((k : ℕ) × (k < length word) × (letters ≤ slice_index word k))
