-- What a certified verdict tells.
use Rattle.std.proofs.Common.{◌≡◌, ◌∙◌, ℕ, ◌<◌, ◌≤◌, List, length, drop, take, get_or, Ok, Err, Result, MatchResult, IfOk, ap, subst, sym, arith}
use Rattle.std.proofs.Math.Seq.{take-append_seam}
use Rattle.std.proofs.lemmas.List.{get_or-map, length-map}
use Rattle.bench.specs.declared.states.Form.{Form}
use Rattle.bench.specs.declared.verdicts.Verdict.{Verdict}
use Rattle.chart.specs.Automata.{Automaton}
use Rattle.report.specs.Counterexamples.{Lettered, Tells, TellsBoth}
use Rattle.bench.specs.declared.faults.BenchFault.{BenchFault}
use Rattle.bench.specs.declared.faults.BenchFault.TheVariants as faults
use Rattle.records.specs.declared.faults.SearchFault.TheVariants.{Full}
use Rattle.report.specs.Decided.{CertifiesBoth, ChartsTold, DecidesBoth}
use Rattle.report.specs.Spelled.{Known}
use Rattle.report.specs.declared.refuting.Told.{Told}
use Rattle.report.specs.declared.refuting.Told.TheVariants.{Kept, Broken}
use Rattle.report.specs.declared.refusals.Refusal.{Refusal}
use Rattle.slip.specs.declared.kinds.Kind.{Kind}
use Rattle.slip.specs.declared.kinds.Kind.TheVariants.{Break}
use Rattle.records.specs.Tables.{blank}
use Rattle.records.specs.declared.record.Record.{Record}
use Rattle.slip.specs.Shapes.{stems}
use Rattle.slip.specs.Measured.{letters}
use Rattle.bench.specs.Showing.{ShowsFor}
use Rattle.verdict.specs.Certified.{Certifies, DecideTells}
use Rattle.verdict.specs.declared.certifying.Certified.{Certified}

-- What break is shown by, of the first records of the table.
abbrev pub Shown : Automaton → Automaton → Form → List Record → Type 0
Shown a b f table = ShowsFor a b Break f.stem (take f.count table)

module _ (a b : Automaton) (was table : List Record) (c : Certified) (h : Certifies a b 512 was table c) (e : c.verdict.kind ≡ Break) where
  break_slip : h.slip.kind ≡ Break
  break_slip = h.drafts.kind ∙ e

  its_records : take c.form.count table ≡ h.slip.records
  its_records =
      ap (λ (f : Form). take f.count table) h.form
      ∙ (ap (take (length h.slip.records)) h.changed ∙ take-append_seam h.slip.records (drop (length h.slip.records) was))

  pub break_shown : Shown a b c.form table
  break_shown =
      let stem : h.slip.stem ≡ c.form.stem = sym (ap (λ (f : Form). f.stem) h.form) in
      subst (λ (rs : List Record). ShowsFor a b Break c.form.stem rs) (sym its_records)
      (subst (λ k. ShowsFor a b Break k h.slip.records) stem
      (subst (λ (k : Kind). ShowsFor a b k h.slip.stem h.slip.records) break_slip h.shows))

  pub break_fits : (c.form.count ≤ 1024) × (c.form.stem < c.form.count)
  break_fits =
      let count : c.form.count ≡ length h.slip.records = ap (λ (f : Form). f.count) h.form in
      let stem : c.form.stem ≡ h.slip.stem = ap (λ (f : Form). f.stem) h.form in
      let few = h.drafts.fits.few in
      let placed : h.slip.stem < length h.slip.records =
      subst (λ (k : Kind). h.slip.stem < stems k (length h.slip.records)) break_slip h.drafts.fits.placed in
      (omega (arith, count, few), omega (arith, count, stem, placed))

-- The letters of a word are known to be a chart's.
pub letters_known : (n : ℕ) (rs : List Record) → n < 17 → ((k : ℕ) → k < length (letters rs) → get_or (letters rs) k 0 < n) → Known rs
letters_known n rs few known k lt =
    let long : length (letters rs) ≡ length rs = length-map rs (λ (r : Record). r.letter) in
    let same : get_or (letters rs) k 0 ≡ (get_or rs k blank).letter = get_or-map (λ (r : Record). r.letter) rs k blank 0 lt in
    let below : get_or (letters rs) k 0 < n = known k (omega arith) in
    omega arith

pub lettered : (duty rule : List ℕ) (was table : List Record) (c : Certified) → CertifiesBoth duty rule was table c → Lettered c table
lettered duty rule was table c h e =
    let shown = break_shown h.a h.b was table c h.charts.certifies e in
    let fits = break_fits h.a h.b was table c h.charts.certifies e in
    record {
      fits = fits.0;
      placed = fits.1;
      known = letters_known h.a.letters (take c.form.count table) (omega (arith, h.few_letters)) shown.0.known;
    }

pub if_lettered : (duty rule : List ℕ) (was table : List Record) (P : Refusal → Type 0) (r : Result Certified Refusal)
    → MatchResult r (CertifiesBoth duty rule was table) P → IfOk r (λ c. Lettered c table)
if_lettered duty rule was table P (Ok c) h = lettered duty rule was table c h
if_lettered duty rule was table P (Err e) h = tt

pub told : (duty rule : List ℕ) (was table : List Record) (c : Certified) (t : Told) → CertifiesBoth duty rule was table c → Tells c table t
    → TellsBoth duty rule t
told duty rule was table c (Kept v) h t = (
  subst (λ (w : Verdict). DecidesBoth duty rule w) (sym t.0)
      (record { a = h.a; b = h.b; reads = h.reads; go_together = h.charts.go_together; decides = h.charts.certifies.decides }),
  t.1,
)
told duty rule was table c (Broken x) h t =
    let shown =
    subst (λ (rs : List Record). Shown h.a h.b x.form rs) (sym t.2)
    (subst (λ (f : Form). Shown h.a h.b f table) (sym t.1) (break_shown h.a h.b was table c h.charts.certifies t.0)) in
    record {
      a = h.a;
      b = h.b;
      reads = h.reads;
      go_together = h.charts.go_together;
      verdict = c.verdict;
      breaks = t.0;
      decides = h.charts.certifies.decides;
      good = shown.0;
      alone = shown.1;
    }

pub charts_told : (a b : Automaton) (was table work work' : List Record) (r : Result Certified BenchFault) → DecideTells a b 512 was table work work' r
    → length work ≡ 512 → length was ≡ 1024 → ChartsTold a b was table r
charts_told a b was table work work' (Ok c) h enough sized =
    record { go_together = h.0.together; certifies = h.2 }
charts_told a b was table work work' (Err (faults.Instance e)) h enough sized = (h.0, h.1.same_table)
charts_told a b was table work work' (Err faults.Room) h enough sized =
    absurd (h.1 (record { some_records = omega arith; few_records = omega arith }, omega (arith, sized), enough))
charts_told a b was table work work' (Err (faults.Search Full)) h enough sized = ((h.0.together, h.2), h.3)
charts_told a b was table work work' (Err e) h enough sized = absurd h
