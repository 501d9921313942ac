-- The chart of a text that was read.
use Rattle.std.specs.Prelude.{ℕ, List}
use Rattle.chart.specs.Automata.{Automaton}
use Rattle.report.specs.Readings.{Reads}
use Rattle.report.specs.declared.read_charts.ReadChart.{ReadChart}
use Rattle.text.specs.Loads.{loaded_chart}

abbrev pub chart_of : ReadChart → Automaton
chart_of c = loaded_chart c.loaded c.rows

-- it is the one that the text tells
abbrev pub Holds : List ℕ → ReadChart → Type 0
Holds text c = Reads text (chart_of c)
