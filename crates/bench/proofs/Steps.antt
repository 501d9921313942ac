-- What each call answers and leaves is a step of what calls tell.
use Rattle.std.proofs.Common.{◌≡◌, ◌∙◌, ℕ, List, Ok, Err, Result, ⊎_elim, inl, inr, ap, refl, subst, sym, arith}
use Rattle.std.specs.Borrow.{Bor}
use Rattle.bench.specs.Calls.{Formed, InspectTells, JudgeTells, PutTells, ReleaseTells, Same, Sized}
use Rattle.bench.specs.Histories.{Agrees}
use Rattle.bench.specs.Slips.{Fits, form_of, handed, over, slip_at}
use Rattle.bench.specs.Tellings.{Call, Status, First, Follows, Has, IsJudge, WrongSize, Writes}
use Rattle.bench.specs.declared.states.Form.{Form}
use Rattle.bench.specs.declared.states.State.{State}
use Rattle.bench.specs.declared.states.State.TheVariants.{Empty, Drafted, Passed}
use Rattle.bench.specs.declared.verdicts.Verdict.{Verdict}
use Rattle.bench.proofs.Standing.{first_over, length_over, slip_first}
use Rattle.chart.specs.Automata.{Automaton}
use Rattle.bench.specs.declared.faults.BenchFault.{BenchFault}
use Rattle.bench.specs.declared.faults.BenchFault.TheVariants as faults
use Rattle.records.specs.declared.faults.SearchFault.TheVariants.{Full}
use Rattle.rank.specs.Ranked.{ranked_graph}
use Rattle.records.specs.declared.record.Record.{Record}
use Rattle.slip.specs.Certificates.{Certificate}
use Rattle.slip.specs.Rules.{FirstBreach, Meets}

-- The slip that is told, by what the bench's state says of it.
pub record Found (told : Status) (table : List Record) (f : Form) (Told : Certificate → Type 0) : Type 0 where
  pub slip : Certificate
  pub is : Told slip
  pub form : f ≡ form_of slip
  pub first : First slip table

pub told_empty : (told : Status) (s : State) (table : List Record) → Agrees told s table → s ≡ Empty → told ≡ Status.empty
told_empty Status.empty s table g e = refl
told_empty (Status.drafted c) s table g e = let x = sym e ∙ g.0 in absurd (cc)
told_empty (Status.passed c) s table g e = let x = sym e ∙ g.0 in absurd (cc)

told_some : (told : Status) (s : State) (table : List Record) → Agrees told s table → (s ≡ Empty → ⊥) → told ≡ Status.empty → ⊥
told_some Status.empty s table g none e = none g
told_some (Status.drafted c) s table g none e = absurd (cc)
told_some (Status.passed c) s table g none e = absurd (cc)

pub found_drafted : (told : Status) (s : State) (table : List Record) (f : Form) → Agrees told s table → s ≡ Drafted f
    → Found told table f (λ c. told ≡ Status.drafted c)
found_drafted Status.empty s table f g e = let x = sym e ∙ g in absurd (cc)
found_drafted (Status.drafted c) s table f g e =
    let x = sym e ∙ g.0 in record { slip = c; is = refl; form = cc; first = g.1 }
found_drafted (Status.passed c) s table f g e = let x = sym e ∙ g.0 in absurd (cc)

pub found_passed : (told : Status) (s : State) (table : List Record) (f : Form) → Agrees told s table → s ≡ Passed f
    → Found told table f (λ c. told ≡ Status.passed c)
found_passed Status.empty s table f g e = let x = sym e ∙ g in absurd (cc)
found_passed (Status.drafted c) s table f g e = let x = sym e ∙ g.0 in absurd (cc)
found_passed (Status.passed c) s table f g e =
    let x = sym e ∙ g.0 in record { slip = c; is = refl; form = cc; first = g.1 }

found : (told : Status) (s : State) (table : List Record) (f : Form) → Agrees told s table → Formed s f → Found told table f (Has told)
found told s table f g formed =
    ⊎_elim
    (λ (e : s ≡ Drafted f).
    let x = found_drafted told s table f g e in record { slip = x.slip; is = inl x.is; form = x.form; first = x.first })
    (λ (e : s ≡ Passed f).
    let x = found_passed told s table f g e in record { slip = x.slip; is = inr x.is; form = x.form; first = x.first })
    formed

module _ (a b : Automaton) (room : ℕ) where
  -- a call that was lent the bench's table
  pub record Step (call : Call) (told : Status) (table : List Record) (s' : State) (table' : List Record) : Type 0 where
    pub now : Status
    pub follows : Follows a b room call told now
    pub writes : Writes call now table table'
    pub lent : WrongSize call → IsJudge call
    pub sized : Sized room table'
    pub agrees : Agrees now s' table'

  -- a call that was lent a table of another length
  pub record Kept (call : Call) (s s' : State) : Type 0 where
    pub misfit : WrongSize call
    pub follows : (told : Status) → Follows a b room call told told
    pub same : s' ≡ s

  module _ (s : State) (table : List Record) (told : Status) (sized : Sized room table) (agrees : Agrees told s table) where
    same_step : (call : Call) (s' : State) (table' : List Record) → Follows a b room call told told
        → (table' ≡ table → Writes call told table table') → (WrongSize call → IsJudge call) → Same s table s' table' → Step call told table s' table'
    same_step call s' table' follows writes lent same =
        record {
          now = told;
          follows = follows;
          writes = writes same.same_table;
          lent = lent;
          sized = subst (Sized room) (sym same.same_table) sized;
          agrees =
              subst (λ x. Agrees told x table') (sym same.same_state)
              (subst (λ t. Agrees told s t) (sym same.same_table) agrees);
        }

    drafted_step : (call : Call) (c : Certificate) (s' : State) (table' : List Record) → Follows a b room call told (Status.drafted c)
        → Writes call (Status.drafted c) table table' → (WrongSize call → IsJudge call) → Fits room c → s' ≡ Drafted (form_of c) → table' ≡ over c.records table
        → Step call told table s' table'
    drafted_step call c s' table' follows writes lent fits state changed =
        let most = fits.few in
        let long = length_over c.records table (omega (arith, most, sized)) in
        record {
          now = Status.drafted c;
          follows = follows;
          writes = writes;
          lent = lent;
          sized = subst (Sized room) (sym changed) (long ∙ sized);
          agrees = (state, subst (First c) (sym changed) (first_over c table));
        }

    pub judge_step : (work : List Record) (s' : State) (table' work' : List Record) (r : Result Verdict BenchFault)
        → JudgeTells a b room s table work s' table' work' r → Step (Call.judge table' r) told table s' table'
    judge_step work s' table' work' (Ok v) j =
        let first = subst (First j.slip) (sym j.changed) (first_over j.slip table) in
        drafted_step (Call.judge table' (Ok v)) j.slip s' table'
        (told_empty told s table agrees j.free, (j.slip, record { decides = j.decides; drafts = j.drafts; first = first }, refl))
        (j.slip, refl, j.changed) (λ m. tt {0}) j.drafts.fits j.state j.changed
    judge_step work s' table' work' (Err faults.Room) j = same_step (Call.judge table' (Err faults.Room)) s' table' refl (λ e. e) (λ m. tt {0}) j.1
    judge_step work s' table' work' (Err faults.Occupied) j =
        same_step (Call.judge table' (Err faults.Occupied)) s' table' (told_some told s table agrees j.2, refl) (λ e. e) (λ m. tt {0}) j.3
    judge_step work s' table' work' (Err (faults.Search Full)) j =
        same_step (Call.judge table' (Err (faults.Search Full))) s' table' (told_empty told s table agrees j.2, j.3, refl) (λ e. e) (λ m. tt {0}) j.4
    judge_step work s' table' work' (Err e) j = absurd j

    pub put_step : (c : Certificate) (s' : State) (table' : List Record) (r : Result (Unit {0}) BenchFault) → PutTells a b room s table c s' table' r
        → Step (Call.put c r) told table s' table'
    put_step c s' table' (Ok u) p =
        drafted_step (Call.put c (Ok u)) c s' table' (told_empty told s table agrees p.free, p.fits, refl) p.changed (λ m. absurd (cc)) p.fits p.state p.changed
    put_step c s' table' (Err faults.Room) p = same_step (Call.put c (Err faults.Room)) s' table' refl (λ e. e) (λ m. absurd (p.0 sized)) p.1
    put_step c s' table' (Err faults.Occupied) p =
        same_step (Call.put c (Err faults.Occupied)) s' table' (told_some told s table agrees p.1, refl) (λ e. e) (λ m. absurd (cc)) p.2
    put_step c s' table' (Err faults.Shape) p =
        same_step (Call.put c (Err faults.Shape)) s' table' (told_empty told s table agrees p.1, p.2, refl) (λ e. e) (λ m. absurd (cc)) p.3
    put_step c s' table' (Err e) p = absurd p

    unchanged : (s' : State) → s' ≡ s → Same s table s' table
    unchanged s' e = record { same_state = e; same_table = refl }

    pub inspect_step : (s' : State) (r : Result (Unit {0}) BenchFault) → InspectTells a b room s table s' r → Step (Call.inspect r) told table s' table
    inspect_step s' (Ok u) i =
        let x = found told s table i.form agrees i.formed in
        let is = ap (λ (f : Form). slip_at f table) x.form ∙ slip_first x.slip table x.first in
        record {
          now = Status.passed x.slip;
          follows = (x.slip, x.is, subst (Meets (ranked_graph a b)) is i.meets, refl);
          writes = refl;
          lent = λ m. absurd (cc);
          sized = sized;
          agrees = (i.state ∙ ap Passed x.form, x.first);
        }
    inspect_step s' (Err faults.Room) i = same_step (Call.inspect (Err faults.Room)) s' table refl (λ e. e) (λ m. absurd (i.0 sized)) (unchanged s' i.1)
    inspect_step s' (Err faults.Vacant) i =
        same_step (Call.inspect (Err faults.Vacant)) s' table (told_empty told s table agrees i.1, refl) (λ e. e) (λ m. absurd (cc)) (unchanged s' i.2)
    inspect_step s' (Err (faults.Broken breach)) i =
        let x = found told s table i.1.0 agrees i.1.1 in
        let is = ap (λ (f : Form). slip_at f table) x.form ∙ slip_first x.slip table x.first in
        record {
          now = Status.drafted x.slip;
          follows = (x.slip, x.is, subst (λ c. FirstBreach (ranked_graph a b) c breach) is i.1.2, refl);
          writes = refl;
          lent = λ m. absurd (cc);
          sized = sized;
          agrees = (i.1.3 ∙ ap Drafted x.form, x.first);
        }
    inspect_step s' (Err e) i = absurd i

    pub release_step : (r : Result (Bor (List Record)) BenchFault) → ReleaseTells a b room s table r → Step (Call.release r) told table s table
    release_step (Ok out) r =
        let x = found_passed told s table r.form agrees r.passed in
        let is = ap (λ (f : Form). slip_at f table) x.form ∙ slip_first x.slip table x.first in
        same_step (Call.release (Ok out)) s table (x.slip, x.is, r.hands ∙ ap handed is, refl) (λ e. e) (λ m. absurd (cc)) (unchanged s refl)
    release_step (Err faults.Room) r = same_step (Call.release (Err faults.Room)) s table refl (λ e. e) (λ m. absurd (r sized)) (unchanged s refl)
    release_step (Err faults.Vacant) r =
        same_step (Call.release (Err faults.Vacant)) s table (told_empty told s table agrees r.1, refl) (λ e. e) (λ m. absurd (cc)) (unchanged s refl)
    release_step (Err faults.Unpassed) r =
        let x = found_drafted told s table r.1.0 agrees r.1.1 in
        same_step (Call.release (Err faults.Unpassed)) s table ((x.slip, x.is), refl) (λ e. e) (λ m. absurd (cc)) (unchanged s refl)
    release_step (Err e) r = absurd r

  module _ (s : State) (table : List Record) (unsized : Sized room table → ⊥) where
    pub judge_kept : (work : List Record) (s' : State) (table' work' : List Record) (r : Result Verdict BenchFault)
        → JudgeTells a b room s table work s' table' work' r → Kept (Call.judge table' r) s s'
    judge_kept work s' table' work' (Ok v) j = absurd (unsized j.sized)
    judge_kept work s' table' work' (Err faults.Room) j = record { misfit = refl; follows = λ told. refl; same = j.1.same_state }
    judge_kept work s' table' work' (Err faults.Occupied) j = absurd (unsized j.0)
    judge_kept work s' table' work' (Err (faults.Search Full)) j = absurd (unsized j.0)
    judge_kept work s' table' work' (Err e) j = absurd j

    pub put_kept : (c : Certificate) (s' : State) (table' : List Record) (r : Result (Unit {0}) BenchFault) → PutTells a b room s table c s' table' r
        → Kept (Call.put c r) s s'
    put_kept c s' table' (Ok u) p = absurd (unsized p.sized)
    put_kept c s' table' (Err faults.Room) p = record { misfit = refl; follows = λ told. refl; same = p.1.same_state }
    put_kept c s' table' (Err faults.Occupied) p = absurd (unsized p.0)
    put_kept c s' table' (Err faults.Shape) p = absurd (unsized p.0)
    put_kept c s' table' (Err e) p = absurd p

    pub inspect_kept : (s' : State) (r : Result (Unit {0}) BenchFault) → InspectTells a b room s table s' r → Kept (Call.inspect r) s s'
    inspect_kept s' (Ok u) i = absurd (unsized i.sized)
    inspect_kept s' (Err faults.Room) i = record { misfit = refl; follows = λ told. refl; same = i.1 }
    inspect_kept s' (Err faults.Vacant) i = absurd (unsized i.0)
    inspect_kept s' (Err (faults.Broken breach)) i = absurd (unsized i.0)
    inspect_kept s' (Err e) i = absurd i

    pub release_kept : (r : Result (Bor (List Record)) BenchFault) → ReleaseTells a b room s table r → Kept (Call.release r) s s
    release_kept (Ok out) r = absurd (unsized r.sized)
    release_kept (Err faults.Room) r = record { misfit = refl; follows = λ told. refl; same = refl }
    release_kept (Err faults.Vacant) r = absurd (unsized r.0)
    release_kept (Err faults.Unpassed) r = absurd (unsized r.0)
    release_kept (Err e) r = absurd r
