-- What loading a text promises.
use Rattle.std.specs.Prelude.{◌≡◌, ℕ, ◌*◌, ◌<◌, ◌≤◌, List, length, Ok, Err, Result, slice_index}
use Rattle.chart.specs.Automata.{Automaton, Allowed}
use Rattle.chart.specs.Kinds.{table}
use Rattle.numbers.specs.Bits.{Below}
use Rattle.fault.specs.declared.ChartFault.{ChartFault}
use Rattle.fault.specs.declared.ChartFault.TheVariants.{Text, FewRows}
use Rattle.text.specs.Documents.{Tells}
use Rattle.text.specs.Refused.{TextRefused}
use Rattle.text.specs.declared.loading.Loaded.{Loaded}

-- the chart of what was loaded, over the rows
abbrev pub loaded_chart : Loaded → List ℕ → Automaton
loaded_chart l rows = table l.states l.letters l.starts l.marks rows

-- The rows hold the one chart that the text tells, and no set has a bit beyond its states; the other rows stay.
pub record Filled (text was rows : List ℕ) (l : Loaded) : Type 0 where
  pub tells : Tells text (loaded_chart l rows)
  pub only : (m : Automaton) → Tells text m → m ≡ loaded_chart l rows
  pub allowed : Allowed l.states l.letters
  pub enough : l.states * l.letters ≤ length was
  pub clean : (j : ℕ) → j < l.states * l.letters → Below l.states (slice_index rows j)
  pub clean_starts : Below l.states l.starts
  pub clean_marks : Below l.states l.marks
  pub past : (j : ℕ) → l.states * l.letters ≤ j → slice_index rows j ≡ slice_index was j

-- The text tells a chart, for which the rows are too few.
pub record Short (text was : List ℕ) : Type 0 where
  pub chart : Automaton
  pub tells : Tells text chart
  pub few : length was < chart.states * chart.letters

abbrev pub LoadRefused : List ℕ → List ℕ → ChartFault → Type 0
LoadRefused text was (Text e) = TextRefused text e
LoadRefused text was FewRows = Short text was
LoadRefused text was _ = ⊥

abbrev pub Loads : List ℕ → List ℕ → List ℕ → Result Loaded ChartFault → Type 0
Loads text was rows (Ok l) = Filled text was rows l
Loads text was rows (Err e) = LoadRefused text was e × (rows ≡ was)
