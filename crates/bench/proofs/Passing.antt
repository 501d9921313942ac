-- What judge leaves passes inspection.
use Rattle.std.proofs.Common.{◌≡◌, ◌∙◌, ℕ, List, Ok, Err, Result, ⊎_elim, ap, subst, sym, arith}
use Rattle.std.specs.Prelude.{IfOk}
use Rattle.bench.specs.Calls.{Formed, Judged, JudgeTells, Sized, WillPass}
use Rattle.bench.specs.Slips.{form_of, slip_at}
use Rattle.bench.specs.declared.states.Form.{Form}
use Rattle.bench.specs.declared.states.State.{State}
use Rattle.bench.specs.declared.states.State.TheVariants.{Drafted}
use Rattle.bench.specs.declared.verdicts.Verdict.{Verdict}
use Rattle.bench.proofs.Standing.{length_over, slip_over}
use Rattle.chart.specs.Automata.{Automaton}
use Rattle.bench.specs.declared.faults.BenchFault.{BenchFault}
use Rattle.bench.specs.declared.faults.BenchFault.TheVariants as faults
use Rattle.rank.specs.Ranked.{ranked_graph}
use Rattle.records.specs.declared.record.Record.{Record}
use Rattle.slip.specs.Rules.{FirstBreach}
use Rattle.slip.proofs.Breaches.{met_or_broken}

drafted_form : (s : State) (f d : Form) → s ≡ Drafted d → Formed s f → f ≡ d
drafted_form s f d is formed =
    ⊎_elim (λ e. let c = sym e ∙ is in cc) (λ e. let c = sym e ∙ is in absurd (cc)) formed

module _ (a b : Automaton) (room : ℕ) (s : State) (table work : List Record) (s' : State) (table' work' : List Record) (v : Verdict)
    (j : Judged a b room s table work s' table' work' v) where
  pub judged_sized : Sized room table'
  judged_sized =
      let e = length_over j.slip.records table (omega (arith, j.drafts.fits.few, j.sized)) in
      subst (Sized room) (sym j.changed) (e ∙ j.sized)

  -- the slip that stands is the one that was drafted
  pub judged_form : (f : Form) → Formed s' f → f ≡ form_of j.slip
  judged_form f formed = drafted_form s' f (form_of j.slip) j.state formed

  pub judged_slip : (f : Form) → Formed s' f → slip_at f table' ≡ j.slip
  judged_slip f formed =
      ap (λ d. slip_at d table') (judged_form f formed) ∙ (ap (slip_at (form_of j.slip)) j.changed ∙ slip_over j.slip table)

  judged_passes : WillPass a b room s' table'
  judged_passes s'' faults.Room i = i.0 judged_sized
  judged_passes s'' faults.Vacant i = let c = sym j.state ∙ i.1 in absurd (cc)
  judged_passes s'' (faults.Broken breach) i =
      met_or_broken (ranked_graph a b) j.slip breach j.drafts.meets
      (subst (λ c. FirstBreach (ranked_graph a b) c breach) (judged_slip i.1.0 i.1.1) i.1.2)
  judged_passes s'' e i = absurd i

pub judge_passes : (a b : Automaton) (room : ℕ) (s : State) (table work : List Record) (s' : State) (table' work' : List Record)
    (r : Result Verdict BenchFault) → JudgeTells a b room s table work s' table' work' r → IfOk r (λ v. WillPass a b room s' table')
judge_passes a b room s table work s' table' work' (Ok v) j = judged_passes a b room s table work s' table' work' v j
judge_passes a b room s table work s' table' work' (Err e) j = tt
