-- Every call carries on what the calls before it told, and what stands passed is true.
use Rattle.std.proofs.Common.{◌≡◌, ◌∙◌, ℕ, ◌≤◌, List, [], ◌∷◌, Ok, Err, Result, ap, refl, subst, sym}
use Rattle.std.specs.Borrow.{Bor}
use Rattle.std.specs.Prelude.{IfOk, MatchResult}
use Rattle.bench.specs.Benches.{SameBench, duty_on, rule_on}
use Rattle.bench.specs.Calls.{InspectTells, JudgeTells, PutTells, ReleaseTells, Sized, WillPass}
use Rattle.bench.specs.Histories.{Agrees, Law, LedTo, StateTold}
use Rattle.bench.specs.Making.{NewBench, NewRefused}
use Rattle.bench.specs.Slips.{handed, slip_at}
use Rattle.bench.specs.Tellings.{Call, Status, Follows, HandsOut, NoPassed, Sound, Tells}
use Rattle.bench.specs.declared.benches.Bench.{Bench}
use Rattle.bench.specs.declared.states.Form.{Form}
use Rattle.bench.specs.declared.states.State.{State}
use Rattle.bench.specs.declared.states.State.TheVariants.{Empty}
use Rattle.bench.specs.declared.verdicts.Verdict.{Verdict}
use Rattle.bench.proofs.Passing.{judge_passes}
use Rattle.bench.proofs.Standing.{slip_first}
use Rattle.bench.proofs.Steps.{Kept, Step, found_passed, inspect_kept, inspect_step, judge_kept, judge_step, put_kept, put_step, release_kept, release_step, told_empty, found_drafted}
use Rattle.bench.proofs.Telling.{told_sound}
use Rattle.chart.specs.Automata.{Automaton}
use Rattle.chart.specs.Fits.{fitted_of_limits}
use Rattle.bench.specs.declared.faults.BenchFault.{BenchFault}
use Rattle.bench.specs.declared.faults.BenchFault.TheVariants as faults
use Rattle.rank.specs.Containment.{Charts}
use Rattle.ranked.specs.Instances.{duty_in, rule_in}
use Rattle.records.specs.declared.record.Record.{Record}
use Rattle.slip.specs.Certificates.{Certificate}

module _ {D R : Type 0} (meaning_d : D → Automaton) (meaning_r : R → Automaton) where
  pub charts_on : (s : Bench D R) → Charts (duty_on meaning_d s) (rule_on meaning_r s)
  charts_on s =
      record {
        duty = fitted_of_limits meaning_d s.instance.duty;
        rule = fitted_of_limits meaning_r s.instance.rule;
        few_states = s.instance.few_states;
      }

  module _ (a b : Automaton) (room : ℕ) (calls : List Call) (told : Status) (s : Bench D R) (mine : List Record)
      (led : LedTo meaning_d meaning_r a b room calls told s mine) where
    -- what holds of the charts on the bench holds of those that the calls were made for
    pub moved : (P : Automaton → Automaton → ℕ → Type 0) → P (duty_on meaning_d s) (rule_on meaning_r s) s.room → P a b room
    moved P x =
        subst (λ d. P d b room) led.duty
        (subst (λ r. P (duty_on meaning_d s) r room) led.rule (subst (P (duty_on meaning_d s) (rule_on meaning_r s)) led.same_room x))

    sound_for : (calls' : List Call) (now : Status) → Tells a b room calls' now → Sound a b now
    sound_for calls' now =
        told_sound a b room (moved (λ d r n. Charts d r) (charts_on s)) (moved (λ d r n. n ≤ 65536) s.allowed.few_records) calls' now

    -- with one call more, the calls lead to a bench with the same charts and room
    led_on : (s' : Bench D R) → SameBench s s' → (call : Call) (now : Status) → Follows a b room call told now → (mine' : List Record)
        → Sized room mine' → Agrees now s'.state mine' → LedTo meaning_d meaning_r a b room (call ∷ calls) now s' mine'
    led_on s' same call now follows mine' sized agrees =
        record {
          duty = ap (duty_in meaning_d) same.instance ∙ led.duty;
          rule = ap (rule_in meaning_r) same.instance ∙ led.rule;
          same_room = same.room ∙ led.same_room;
          tells = (told, led.tells, follows);
          sized = sized;
          agrees = agrees;
        }

  module _ (call : Call) (s : Bench D R) (table : List Record) (s' : Bench D R) (table' : List Record) (same : SameBench s s') where
    -- what the call answers is told for each duty, rule and room, so that it can be moved
    law : (Answers : Automaton → Automaton → ℕ → Type 0) → Answers (duty_on meaning_d s) (rule_on meaning_r s) s.room
        → ((a b : Automaton) (room : ℕ) (told : Status) → Sized room table → Agrees told s.state table → Answers a b room
        → Step a b room call told table s'.state table')
        → ((a b : Automaton) (room : ℕ) → (Sized room table → ⊥) → Answers a b room → Kept a b room call s.state s'.state)
        → Law meaning_d meaning_r call s table s' table'
    law Answers answers step kept =
        record {
          own =
              λ a b room calls told led.
              let x = step a b room told led.sized led.agrees (moved a b room calls told s table led Answers answers) in
              let after = led_on a b room calls told s table led s' same call x.now x.follows table' x.sized x.agrees in
              record {
                now = x.now;
                follows = x.follows;
                writes = x.writes;
                lent = x.lent;
                led = after;
                sound = sound_for a b room calls told s table led (call ∷ calls) x.now after.tells;
              };
          other =
              λ a b room calls told mine unsized led.
              let x = kept a b room unsized (moved a b room calls told s mine led Answers answers) in (
                x.misfit,
                led_on a b room calls told s mine led s' same call told (x.follows told) mine led.sized
                    (subst (λ y. Agrees told y mine) (sym x.same) led.agrees),
                sound_for a b room calls told s mine led calls told led.tells,
              );
        }

  pub judge_law : (s : Bench D R) (table work : List Record) (s' : Bench D R) (table' work' : List Record) (r : Result Verdict BenchFault)
      → JudgeTells (duty_on meaning_d s) (rule_on meaning_r s) s.room s.state table work s'.state table' work' r → SameBench s s'
      → Law meaning_d meaning_r (Call.judge table' r) s table s' table'
  judge_law s table work s' table' work' r tells same =
      law (Call.judge table' r) s table s' table' same (λ a b room. JudgeTells a b room s.state table work s'.state table' work' r) tells
      (λ a b room told sized agrees. judge_step a b room s.state table told sized agrees work s'.state table' work' r)
      (λ a b room unsized. judge_kept a b room s.state table unsized work s'.state table' work' r)

  pub put_law : (s : Bench D R) (table : List Record) (c : Certificate) (s' : Bench D R) (table' : List Record) (r : Result (Unit {0}) BenchFault)
      → PutTells (duty_on meaning_d s) (rule_on meaning_r s) s.room s.state table c s'.state table' r → SameBench s s'
      → Law meaning_d meaning_r (Call.put c r) s table s' table'
  put_law s table c s' table' r tells same =
      law (Call.put c r) s table s' table' same (λ a b room. PutTells a b room s.state table c s'.state table' r) tells
      (λ a b room told sized agrees. put_step a b room s.state table told sized agrees c s'.state table' r)
      (λ a b room unsized. put_kept a b room s.state table unsized c s'.state table' r)

  pub inspect_law : (s : Bench D R) (table : List Record) (s' : Bench D R) (r : Result (Unit {0}) BenchFault)
      → InspectTells (duty_on meaning_d s) (rule_on meaning_r s) s.room s.state table s'.state r → SameBench s s'
      → Law meaning_d meaning_r (Call.inspect r) s table s' table
  inspect_law s table s' r tells same =
      law (Call.inspect r) s table s' table same (λ a b room. InspectTells a b room s.state table s'.state r) tells
      (λ a b room told sized agrees. inspect_step a b room s.state table told sized agrees s'.state r)
      (λ a b room unsized. inspect_kept a b room s.state table unsized s'.state r)

  pub release_law : (s : Bench D R) (table : List Record) (r : Result (Bor (List Record)) BenchFault)
      → ReleaseTells (duty_on meaning_d s) (rule_on meaning_r s) s.room s.state table r
      → Law meaning_d meaning_r (Call.release r) s table s table
  release_law s table r tells =
      law (Call.release r) s table s table (record { instance = refl; room = refl })
      (λ a b room. ReleaseTells a b room s.state table r) tells
      (λ a b room told sized agrees. release_step a b room s.state table told sized agrees r)
      (λ a b room unsized. release_kept a b room s.state table unsized r)

  pub law_clear : (s s' : Bench D R) → SameBench s s' → s'.state ≡ Empty → (a b : Automaton) (room : ℕ) (calls : List Call) (told : Status)
      (table mine : List Record) → LedTo meaning_d meaning_r a b room calls told s table → Sized room mine
      → LedTo meaning_d meaning_r a b room (Call.clear ∷ calls) Status.empty s' mine
  law_clear s s' same empty a b room calls told table mine led sized =
      led_on a b room calls told s table led s' same Call.clear Status.empty refl mine sized empty

  pub new_law : (duty : D) (rule : R) (room : ℕ) (r : Result (Bench D R) BenchFault)
      → MatchResult r (NewBench meaning_d meaning_r duty rule room) (NewRefused (meaning_d duty) (meaning_r rule) room)
      → IfOk r
      (λ s. (table : List Record) → Sized room table → LedTo meaning_d meaning_r (meaning_d duty) (meaning_r rule) room [] Status.empty s table)
  new_law duty rule room (Ok s) n =
      λ table sized.
      record {
        duty = n.duty_means;
        rule = n.rule_means;
        same_room = n.same_room;
        tells = refl;
        sized = sized;
        agrees = n.empty;
      }
  new_law duty rule room (Err e) n = tt

  -- what is handed out is true, and nothing is where no slip is told to be passed
  pub hands_out : (s : Bench D R) (table : List Record) (r : Result (Bor (List Record)) BenchFault)
      → ReleaseTells (duty_on meaning_d s) (rule_on meaning_r s) s.room s.state table r → (a b : Automaton) (room : ℕ) (calls : List Call)
      (told : Status) → LedTo meaning_d meaning_r a b room calls told s table
      → MatchResult r (λ out. HandsOut a b told out.now) (λ e. NoPassed told)
  hands_out s table (Ok out) tells a b room calls told led =
      let x = found_passed told s.state table tells.form led.agrees tells.passed in
      let is = ap (λ (f : Form). slip_at f table) x.form ∙ slip_first x.slip table x.first in
      record {
        slip = x.slip;
        passed = x.is;
        hands = tells.hands ∙ ap handed is;
        shows = subst (Sound a b) x.is (sound_for a b room calls told s table led calls told led.tells);
      }
  hands_out s table (Err faults.Room) tells a b room calls told led =
      absurd (tells (subst (λ n. Sized n table) (sym led.same_room) led.sized))
  hands_out s table (Err faults.Vacant) tells a b room calls told led =
      λ c e. let x = sym (told_empty told s.state table led.agrees tells.1) ∙ e in absurd (cc)
  hands_out s table (Err faults.Unpassed) tells a b room calls told led =
      λ c e. let x = sym (found_drafted told s.state table tells.1.0 led.agrees tells.1.1).is ∙ e in absurd (cc)
  hands_out s table (Err e) tells a b room calls told led = absurd tells

  pub state_told : (s : Bench D R) (r : State) → r ≡ s.state → StateTold meaning_d meaning_r s r
  state_told s r is = λ a b room calls told table led. subst (λ x. Agrees told x table) (sym is) led.agrees

  pub judge_next : (s : Bench D R) (table work : List Record) (s' : Bench D R) (table' work' : List Record) (r : Result Verdict BenchFault)
      → JudgeTells (duty_on meaning_d s) (rule_on meaning_r s) s.room s.state table work s'.state table' work' r → SameBench s s'
      → IfOk r (λ v. WillPass (duty_on meaning_d s') (rule_on meaning_r s') s'.room s'.state table')
  judge_next s table work s' table' work' r tells same =
      subst (λ n. IfOk r (λ v. WillPass (duty_on meaning_d s') (rule_on meaning_r s') n s'.state table')) (sym same.room)
      (subst (λ y. IfOk r (λ v. WillPass (duty_on meaning_d s') y s.room s'.state table')) (sym (ap (rule_in meaning_r) same.instance))
      (subst (λ x. IfOk r (λ v. WillPass x (rule_on meaning_r s) s.room s'.state table')) (sym (ap (duty_in meaning_d) same.instance))
      (judge_passes (duty_on meaning_d s) (rule_on meaning_r s) s.room s.state table work s'.state table' work' r tells)))
