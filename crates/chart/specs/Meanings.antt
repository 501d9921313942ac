-- The meaning of a value of each kind, as its implementation of the interface gives it. A value made by `new` means what
-- its contract says.
use Rattle.chart.specs.Automata.{Automaton}
use Rattle.chart.specs.Kinds.{fitted, table, union}
use Rattle.chart.specs.declared.tables.Table.{Table}
use Rattle.chart.specs.declared.fitting.Fitted.{Fitted}
use Rattle.chart.specs.declared.unions.Union.{Union}

abbrev pub table_of : Table → Automaton
table_of t = table t.size.states t.size.letters t.starts t.marks t.rows.now

-- a fitted chart, where m tells what the chart in it means
abbrev pub fitted_of : {C : Type 0} → (C → Automaton) → Fitted C → Automaton
fitted_of m f = fitted f.size.states f.size.letters (m f.chart)

-- a union, where a and b tell what the charts in it mean
abbrev pub union_of : {A B : Type 0} → (A → Automaton) → (B → Automaton) → Union A B → Automaton
union_of a b u = union (fitted_of a u.first) (fitted_of b u.second)
