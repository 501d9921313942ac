-- What the report on two texts says, and its bytes.
use Rattle.std.specs.Prelude.{◌≡◌, ℕ, ◌≤◌, List, Ok, Err, Result, MatchResult}
use Rattle.bench.specs.Shown.{verdict_text}
use Rattle.bench.specs.Verdicts.{Decides}
use Rattle.bench.specs.declared.verdicts.Verdict.{Verdict}
use Rattle.chart.specs.Automata.{Automaton}
use Rattle.bench.specs.declared.faults.BenchFault.{BenchFault}
use Rattle.bench.specs.declared.faults.BenchFault.TheVariants as bench
use Rattle.records.specs.declared.faults.SearchFault.TheVariants.{Full}
use Rattle.graph.specs.Walks.{More}
use Rattle.rank.specs.Ranked.{ranked_graph}
use Rattle.ranked.specs.Together.{GoTogether, InstanceRefused}
use Rattle.report.specs.Readings.{ReadsBoth, FirstRefused}
use Rattle.report.specs.Shown.{refusal_text}
use Rattle.report.specs.declared.refusals.Refusal.{Refusal}
use Rattle.report.specs.declared.deciding.Report.{Report}
use Rattle.records.specs.declared.record.Record.{Record}
use Rattle.verdict.specs.Certified.{Certifies}
use Rattle.verdict.specs.declared.certifying.Certified.{Certified}

-- a verdict on two charts, in a room of 512 nodes, and the slip that shows it, written over a table
pub record CertifiesCharts (a b : Automaton) (was table : List Record) (c : Certified) : Type 0 where
  pub go_together : GoTogether a b
  pub certifies : Certifies a b 512 was table c

-- the same of the charts that the files tell
pub record CertifiesBoth (duty rule : List ℕ) (was table : List Record) (c : Certified) : Type 0 where
  pub a : Automaton
  pub b : Automaton
  pub reads : ReadsBoth duty rule a b
  pub few_letters : a.letters ≤ 16
  pub charts : CertifiesCharts a b was table c

-- the verdict alone
pub record DecidesBoth (duty rule : List ℕ) (v : Verdict) : Type 0 where
  pub a : Automaton
  pub b : Automaton
  pub reads : ReadsBoth duty rule a b
  pub go_together : GoTogether a b
  pub decides : Decides a b 512 v

-- The charts differ in letters, or the rule has more than 6 states, or more than 512 nodes of their ranked graph can be reached.
abbrev pub BothRefused : Automaton → Automaton → BenchFault → Type 0
BothRefused a b (bench.Instance e) = InstanceRefused a b e
BothRefused a b (bench.Search Full) = GoTogether a b × More (ranked_graph a b) 512
BothRefused a b _ = ⊥

-- what is told of two charts, where a refusal leaves the table as it was
abbrev pub ChartsTold : Automaton → Automaton → List Record → List Record → Result Certified BenchFault → Type 0
ChartsTold a b was table r = MatchResult r (CertifiesCharts a b was table) (λ e. BothRefused a b e × (table ≡ was))

abbrev pub Reports : List ℕ → List ℕ → Report → Type 0
Reports duty rule r = MatchResult r.0 (DecidesBoth duty rule) (FirstRefused duty rule BothRefused)

abbrev pub result_text : Result Verdict Refusal → List ℕ
result_text (Ok v) = verdict_text v
result_text (Err r) = refusal_text r

abbrev pub report_text : Report → List ℕ
report_text r = result_text r.0
