-- What it is to read a file, and when one is refused.
use Rattle.std.specs.Prelude.{◌≡◌, ℕ, ◌<◌, ◌≤◌, ◌⊎◌, List, length}
use Rattle.chart.specs.Automata.{Automaton}
use Rattle.bench.specs.declared.faults.BenchFault.{BenchFault}
use Rattle.bench.specs.declared.faults.BenchFault.TheVariants as bench
use Rattle.fault.specs.declared.ChartFault.{ChartFault}
use Rattle.fault.specs.declared.ChartFault.TheVariants.{Text}
use Rattle.fault.specs.declared.TextFault.TheVariants.{Form}
use Rattle.report.specs.declared.refusals.Refusal.{Refusal}
use Rattle.report.specs.declared.refusals.Side.{Side}
use Rattle.report.specs.declared.refusals.Side.TheVariants.{Duty, Rule, Bench}
use Rattle.text.specs.Documents.{Tells}
use Rattle.text.specs.Refused.{TextRefused}

-- a file of at most 8,192 bytes tells the chart
pub record Reads (text : List ℕ) (m : Automaton) : Type 0 where
  pub short : length text ≤ 8192
  pub tells : Tells text m

-- A longer file is refused as a whole, another at its first wrong line.
abbrev pub FileRefused : List ℕ → ChartFault → Type 0
FileRefused text (Text e) = ((8192 < length text) × (e ≡ Form 0)) ⊎ ((length text ≤ 8192) × TextRefused text e)
FileRefused text _ = ⊥

-- a fault of a chart's file
abbrev pub OfFile : List ℕ → BenchFault → Type 0
OfFile text (bench.Chart e) = FileRefused text e
OfFile text _ = ⊥

-- both files are read
pub record ReadsBoth (duty rule : List ℕ) (a b : Automaton) : Type 0 where
  pub duty_read : Reads duty a
  pub rule_read : Reads rule b

-- The duty is read before the rule, and what comes after both are read may be refused, where neither text is to blame.
abbrev pub RefusedAt : List ℕ → List ℕ → (Automaton → Automaton → BenchFault → Type 0) → Side → BenchFault → Type 0
RefusedAt duty rule later Duty e = OfFile duty e
RefusedAt duty rule later Rule e = ((a : Automaton) × Reads duty a) × OfFile rule e
RefusedAt duty rule later Bench e = (a : Automaton) × (b : Automaton) × ReadsBoth duty rule a b × later a b e

abbrev pub FirstRefused : List ℕ → List ℕ → (Automaton → Automaton → BenchFault → Type 0) → Refusal → Type 0
FirstRefused duty rule later r = RefusedAt duty rule later r.side r.fault
