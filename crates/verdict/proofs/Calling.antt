-- What a chain of calls tells, by the law that each of them carries.
use Rattle.std.proofs.Common.{◌≡◌, ◌∙◌, ℕ, ◌*◌, List, [], ◌∷◌, length, replicate, Ok, Err, Some, None, Option, Result, ap, subst, sym}
use Rattle.std.proofs.lemmas.List.{length-replicate}
use Rattle.std.specs.Prelude.{MatchResult}
use Rattle.bench.specs.Calls.{Sized}
use Rattle.bench.specs.Histories.{LedTo, OneMore}
use Rattle.bench.specs.Slips.{Fits, form_of, over}
use Rattle.bench.specs.Tellings.{Call, Status, Follows, Has, NoPassed}
use Rattle.bench.specs.declared.benches.Bench.{Bench}
use Rattle.bench.specs.declared.states.Form.{Form}
use Rattle.bench.specs.declared.verdicts.Verdict.{Verdict}
use Rattle.bench.proofs.Telling.{has_drafted}
use Rattle.chart.specs.Automata.{Automaton}
use Rattle.bench.specs.declared.faults.BenchFault.{BenchFault}
use Rattle.bench.specs.declared.faults.BenchFault.TheVariants as faults
use Rattle.records.specs.declared.faults.SearchFault.TheVariants.{Full}
use Rattle.rank.specs.Ranked.{ranked_graph}
use Rattle.ranked.specs.Together.{GoTogether}
use Rattle.slip.specs.declared.kinds.Breach.{Breach}
use Rattle.records.specs.Sizes.{Allowed}
use Rattle.records.specs.Tables.{blank}
use Rattle.records.specs.declared.record.Record.{Record}
use Rattle.slip.specs.Certificates.{Certificate}
use Rattle.slip.specs.Rules.{BreachTold, FirstBreach, Meets}
use Rattle.bench.specs.Showing.{Shows}
use Rattle.verdict.specs.Certified.{AuditRefused, Certifies, CertifyRefused, CertifyTells, ConfirmTells, DecideTells, Passes, Ready, RulesSaid}
use Rattle.verdict.specs.declared.certifying.Certified.{Certified}

-- the drafted slip that an inspection passed is the one that was drafted
passed_slip : (told now : Status) (c d : Certificate) → told ≡ Status.drafted c → Has told d → now ≡ Status.passed d → now ≡ Status.passed c
passed_slip told now c d drafted has passed =
    passed ∙ ap Status.passed (sym (has_drafted c d (subst (λ s. Has s d) drafted has)))

module _ {D R : Type 0} (meaning_d : D → Automaton) (meaning_r : R → Automaton) (a b : Automaton) (room : ℕ) where
  -- where nothing is drafted, the calls lead to the bench with any table for the room
  pub led_empty : (calls : List Call) (s : Bench D R) (mine table : List Record) → LedTo meaning_d meaning_r a b room calls Status.empty s mine
      → Sized s.room table → LedTo meaning_d meaning_r a b room calls Status.empty s table
  led_empty calls s mine table led sized =
      record {
        duty = led.duty;
        rule = led.rule;
        same_room = led.same_room;
        tells = led.tells;
        sized = subst (λ n. Sized n table) led.same_room sized;
        agrees = led.agrees;
      }

  -- a slip was put and passed
  pub confirmed : (c : Certificate) (table table' : List Record) (s : Bench D R) (calls : List Call) (u : Unit {0}) (v : Unit {0}) (t : Bench D R)
      → (put : OneMore meaning_d meaning_r a b room (Call.put c (Ok u)) [] Status.empty table s table')
      → (inspect : OneMore meaning_d meaning_r a b room (Call.inspect (Ok v)) calls put.now table' t table')
      → Ready a b room table → (r : Result Form BenchFault) → MatchResult r (Passes a b inspect.now) (λ e. NoPassed inspect.now)
      → ConfirmTells a b room c table table' r
  confirmed c table table' s calls u v t put inspect ready (Ok f) p =
      let is = passed_slip put.now inspect.now c inspect.follows.0 put.follows.2 inspect.follows.1 inspect.follows.3 in
      let same : p.slip ≡ c = let x = sym p.passed ∙ is in cc in
      let inspected = has_drafted c inspect.follows.0 (subst (λ s. Has s inspect.follows.0) put.follows.2 inspect.follows.1) in (
        ready,
        record {
          form = p.form ∙ ap form_of same;
          fits = put.follows.1;
          meets = subst (Meets (ranked_graph a b)) (sym inspected) inspect.follows.2;
          shows = subst (Shows a b) same p.shows;
          changed = put.writes;
        },
      )
  confirmed c table table' s calls u v t put inspect ready (Err e) none = absurd (none inspect.follows.0 inspect.follows.3)

  -- a slip was judged on an empty bench and passed
  pub certified : (calls : List Call) (table table' : List Record) (v : Verdict) (s t : Bench D R) (u : Unit {0})
      → (judge : OneMore meaning_d meaning_r a b room (Call.judge table' (Ok v)) calls Status.empty table s table')
      → (inspect : OneMore meaning_d meaning_r a b room (Call.inspect (Ok u)) (Call.judge table' (Ok v) ∷ calls) judge.now table' t table')
      → (f : Form) → Passes a b inspect.now f → Certifies a b room table table' (record { verdict = v; form = f })
  certified calls table table' v s t u judge inspect f p =
      let told = judge.follows.1 in
      let is = passed_slip judge.now inspect.now told.0 inspect.follows.0 told.2 inspect.follows.1 inspect.follows.3 in
      let same : p.slip ≡ told.0 = let x = sym p.passed ∙ is in cc in
      let written : judge.writes.0 ≡ told.0 = let x = sym judge.writes.1 ∙ told.2 in cc in
      record {
        decides = told.1.decides;
        slip = told.0;
        form = p.form ∙ ap form_of same;
        drafts = told.1.drafts;
        shows = subst (Shows a b) same p.shows;
        changed = judge.writes.2 ∙ ap (λ c. over c.records table) written;
      }

-- What is refused on a bench that was made is refused at its place among the refusals of all calls.
module _ (a b : Automaton) (room : ℕ) (together : GoTogether a b) (allowed : Allowed room) where
  pub decided : (table table' work work' : List Record) (r : Result Certified BenchFault) → CertifyTells a b room table table' work work' r
      → DecideTells a b room table table' work work' r
  decided table table' work work' (Ok c) h =
      (record { together = together; allowed = allowed; sized = h.0 }, h.1, h.2)
  decided table table' work work' (Err faults.Room) h = (together, λ all. h.0 (all.1, all.2), h.1)
  decided table table' work work' (Err (faults.Search Full)) h =
      (record { together = together; allowed = allowed; sized = h.0 }, h.1, h.2, h.3)
  decided table table' work work' (Err e) h = absurd h

  -- after a slip was put, which stands over the table then
  pub audit_refused : (c : Certificate) (table put table' work work' : List Record) → Sized room table → Sized room put → length work ≡ room
      → Fits room c → put ≡ over c.records table → (e : BenchFault) → CertifyRefused a b room put table' work work' e
      → AuditRefused a b room c table table' work work' e
  audit_refused c table put table' work work' sized also enough fits written faults.Room h = absurd (h.0 (also, enough))
  audit_refused c table put table' work work' sized also enough fits written (faults.Search Full) h =
      (record { together = together; allowed = allowed; sized = sized }, enough, fits, h.2, h.3 ∙ written)
  audit_refused c table put table' work work' sized also enough fits written e h = absurd h

-- what an inspection says of a drafted slip
pub breach_told : (a b : Automaton) (room : ℕ) (c : Certificate) (r : Result (Unit {0}) BenchFault) (was now : Status) → was ≡ Status.drafted c
    → Follows a b room (Call.inspect r) was now → (o : Option Breach) → RulesSaid r (Ok o)
    → BreachTold (ranked_graph a b) c o
breach_told a b room c (Ok u) was now drafted f o said =
    let is = has_drafted c f.0 (subst (λ s. Has s f.0) drafted f.1) in
    let none : o ≡ None = cc in
    subst (BreachTold (ranked_graph a b) c) (sym none)
    (subst (Meets (ranked_graph a b)) (sym is) f.2)
breach_told a b room c (Err (faults.Broken breach)) was now drafted f o said =
    let is = has_drafted c f.0 (subst (λ s. Has s f.0) drafted f.1) in
    let some : o ≡ Some breach = cc in
    subst (BreachTold (ranked_graph a b) c) (sym some)
    (subst (λ d. FirstBreach (ranked_graph a b) d breach) (sym is) f.2)
breach_told a b room c (Err e) was now drafted f o said = absurd (cc)

-- a table for a room
pub some_table : (room : ℕ) → (table : List Record) × Sized room table
some_table room = (replicate (2 * room) blank, length-replicate (2 * room) blank)
