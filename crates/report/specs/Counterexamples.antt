-- What is told of two texts where a word is told of a break, and its bytes.
use Rattle.std.specs.Prelude.{◌≡◌, ℕ, ◌<◌, ◌≤◌, List, [], ◌∷◌, ◌++◌, Ok, Err, Result, MatchResult, codes, drop, take}
use Rattle.bench.specs.declared.states.Form.{Form}
use Rattle.bench.specs.Shown.{verdict_text}
use Rattle.bench.specs.Verdicts.{Decides}
use Rattle.bench.specs.declared.verdicts.Verdict.{Verdict}
use Rattle.chart.specs.Automata.{Automaton}
use Rattle.lasso.specs.Words.{IsWord}
use Rattle.rank.specs.Containment.{TakenAlone}
use Rattle.ranked.specs.Together.{GoTogether}
use Rattle.report.specs.Decided.{DecidesBoth, BothRefused}
use Rattle.report.specs.Readings.{ReadsBoth, FirstRefused}
use Rattle.report.specs.Shown.{refusal_text}
use Rattle.report.specs.Spelled.{Known, letters_text}
use Rattle.report.specs.declared.counterexamples.Counterexample.{Counterexample}
use Rattle.report.specs.declared.refuting.CounterexampleReport.{CounterexampleReport}
use Rattle.report.specs.declared.refuting.Told.{Told}
use Rattle.report.specs.declared.refuting.Told.TheVariants.{Kept, Broken}
use Rattle.report.specs.declared.refusals.Refusal.{Refusal}
use Rattle.slip.specs.declared.kinds.Kind.TheVariants.{Keep, Break}
use Rattle.records.specs.declared.record.Record.{Record}
use Rattle.slip.specs.Measured.{letters}
use Rattle.verdict.specs.declared.certifying.Certified.{Certified}

-- the records of its slip
abbrev pub slip_of : Counterexample → List Record
slip_of c = take c.form.count c.table

-- the letters of the stem, and then those of the loop
abbrev pub word_of : Counterexample → List ℕ
word_of c = letters (slip_of c)

-- The verdict on the charts that the files tell is break, and the counterexample is a word that the duty takes and the rule does
-- not.
pub record BreaksBoth (duty rule : List ℕ) (c : Counterexample) : Type 0 where
  pub a : Automaton
  pub b : Automaton
  pub reads : ReadsBoth duty rule a b
  pub go_together : GoTogether a b
  pub verdict : Verdict
  pub breaks : verdict.kind ≡ Break
  pub decides : Decides a b 512 verdict
  pub good : IsWord a.letters (word_of c) c.form.stem
  pub alone : TakenAlone a b (word_of c) c.form.stem

abbrev pub TellsBoth : List ℕ → List ℕ → Told → Type 0
TellsBoth duty rule (Kept v) = DecidesBoth duty rule v × (v.kind ≡ Keep)
TellsBoth duty rule (Broken c) = BreaksBoth duty rule c

abbrev pub TellsTexts : List ℕ → List ℕ → CounterexampleReport → Type 0
TellsTexts duty rule r = MatchResult r.0 (TellsBoth duty rule) (FirstRefused duty rule BothRefused)

-- the first records of the table are a break slip, whose letters are known
pub record LetteredSlip (f : Form) (table : List Record) : Type 0 where
  pub fits : f.count ≤ 1024
  pub placed : f.stem < f.count
  pub known : Known (take f.count table)

abbrev pub Lettered : Certified → List Record → Type 0
Lettered c table = c.verdict.kind ≡ Break → LetteredSlip c.form table

-- what is told of a verdict and the table with its slip
abbrev pub Tells : Certified → List Record → Told → Type 0
Tells c table (Kept v) = (v ≡ c.verdict) × (v.kind ≡ Keep)
Tells c table (Broken x) = (c.verdict.kind ≡ Break) × (x.form ≡ c.form) × (x.table ≡ table)

abbrev pub counterexample_text : Counterexample → List ℕ
counterexample_text c =
    codes "stem loop" ++ 10 ∷ (letters_text (take c.form.stem (slip_of c)) ++ 32 ∷ (letters_text (drop c.form.stem (slip_of c)) ++ 10 ∷ []))

abbrev pub told_text : Told → List ℕ
told_text (Kept v) = verdict_text v
told_text (Broken c) = counterexample_text c

abbrev pub result_text : Result Told Refusal → List ℕ
result_text (Ok t) = told_text t
result_text (Err r) = refusal_text r

abbrev pub counterexample_report_text : CounterexampleReport → List ℕ
counterexample_report_text r = result_text r.0
