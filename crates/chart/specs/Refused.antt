-- When a chart cannot be made, and which refusal says so.
use Rattle.std.specs.Prelude.{ℕ, ◌*◌, ◌<◌}
use Rattle.chart.specs.Automata.{Automaton, Allowed}
use Rattle.chart.specs.Kinds.{Unites}
use Rattle.fault.specs.declared.ChartFault.{ChartFault}
use Rattle.fault.specs.declared.ChartFault.TheVariants.{FewRows, Limits}

-- a chart's size of n states and k letters
abbrev pub SizeRefused : ℕ → ℕ → ChartFault → Type 0
SizeRefused n k Limits = Allowed n k → ⊥
SizeRefused n k _ = ⊥

-- a table chart of n states and k letters over so many rows
abbrev pub TableRefused : ℕ → ℕ → ℕ → ChartFault → Type 0
TableRefused n k rows Limits = Allowed n k → ⊥
TableRefused n k rows FewRows = Allowed n k × (rows < n * k)
TableRefused n k rows _ = ⊥

-- the union of a and b
abbrev pub UnionRefused : Automaton → Automaton → ChartFault → Type 0
UnionRefused a b Limits = Unites a b → ⊥
UnionRefused a b _ = ⊥
