-- The calls that lead to a bench and its table, and the law that every call carries on.
use Rattle.std.specs.Borrow.{Bor}
use Rattle.std.specs.Prelude.{◌≡◌, ℕ, List, ◌∷◌, Result, MatchResult}
use Rattle.bench.specs.Benches.{duty_on, rule_on}
use Rattle.bench.specs.Calls.{Sized}
use Rattle.bench.specs.Slips.{form_of}
use Rattle.bench.specs.Tellings.{Call, Status, First, Follows, HandsOut, Has, IsJudge, WrongSize, NoPassed, SameCalls, Sound, Tells, Writes}
use Rattle.bench.specs.declared.benches.Bench.{Bench}
use Rattle.bench.specs.declared.states.State.{State}
use Rattle.bench.specs.declared.states.State.TheVariants.{Empty, Drafted, Passed}
use Rattle.chart.specs.Automata.{Automaton}
use Rattle.bench.specs.declared.faults.BenchFault.{BenchFault}
use Rattle.records.specs.declared.record.Record.{Record}
use Rattle.slip.specs.Certificates.{Certificate}

-- A bench's state and its table agree with what is told: the form of the slip is known, and its records are the first of the table.
abbrev pub Agrees : Status → State → List Record → Type 0
Agrees Status.empty s table = s ≡ Empty
Agrees (Status.drafted c) s table = (s ≡ Drafted (form_of c)) × First c table
Agrees (Status.passed c) s table = (s ≡ Passed (form_of c)) × First c table

module _ {D R : Type 0} (meaning_d : D → Automaton) (meaning_r : R → Automaton) where
  -- These calls, of which the last comes first, lead to the bench and the table: made on a bench for the duty a, the rule b and the
  -- room, they tell this, and the bench and the table agree with it.
  pub record LedTo (a b : Automaton) (room : ℕ) (calls : List Call) (told : Status) (bench : Bench D R) (table : List Record) : Type 0 where
    pub duty : duty_on meaning_d bench ≡ a
    pub rule : rule_on meaning_r bench ≡ b
    pub same_room : bench.room ≡ room
    pub tells : Tells a b room calls told
    pub sized : Sized room table
    pub agrees : Agrees told bench.state table

  -- With this call one more, the calls lead to this bench and table, which was another; what they tell now follows from what they
  -- told before, and what stands passed is true.
  pub record OneMore (a b : Automaton) (room : ℕ) (call : Call) (calls : List Call) (told : Status) (was : List Record) (bench : Bench D R) (table : List Record) : Type 0 where
    pub now : Status
    pub follows : Follows a b room call told now
    pub writes : Writes call now was table
    -- the slip table has the right length, so only judge may be refused by 7, for its work table
    pub lent : WrongSize call → IsJudge call
    pub led : LedTo a b room (call ∷ calls) now bench table
    pub sound : Sound a b now

  -- What a call does to a bench that some calls lead to, whatever these are.
  pub record Law (call : Call) (bench : Bench D R) (table : List Record) (bench' : Bench D R) (table' : List Record) : Type 0 where
    -- where it is lent the bench's table
    pub own :
        (a b : Automaton) (room : ℕ) (calls : List Call) (told : Status) → LedTo a b room calls told bench table
        → OneMore a b room call calls told table bench' table'
    -- where it is lent a table of another length, and the bench's own stays as it is: it is refused by 7, and nothing has happened
    pub other :
        (a b : Automaton) (room : ℕ) (calls : List Call) (told : Status) (mine : List Record) → (Sized room table → ⊥)
        → LedTo a b room calls told bench mine
        → WrongSize call × LedTo a b room (call ∷ calls) told bench' mine × Sound a b told

  -- Clear adds itself, and tells that there is no slip. From then on any table for the room will do.
  abbrev pub Clears : Bench D R → Bench D R → Type 0
  Clears bench bench' =
      (a b : Automaton) (room : ℕ) (calls : List Call) (told : Status) (table mine : List Record)
      → LedTo a b room calls told bench table → Sized room mine → LedTo a b room (Call.clear ∷ calls) Status.empty bench' mine

  module _ (bench : Bench D R) where
    -- What release hands out is true, and it is refused exactly when no slip is told to be passed.
    abbrev pub Hands : List Record → Result (Bor (List Record)) BenchFault → Type 0
    Hands table r =
        (a b : Automaton) (room : ℕ) (calls : List Call) (told : Status) → LedTo a b room calls told bench table
        → MatchResult r (λ out. HandsOut a b told out.now) (λ e. NoPassed told)

    -- the state is what the calls tell, and the slip stands in the first records of the table
    abbrev pub StateTold : State → Type 0
    StateTold s =
        (a b : Automaton) (room : ℕ) (calls : List Call) (told : Status) (table : List Record)
        → LedTo a b room calls told bench table → Agrees told s table

    -- of one bench the calls tell one thing, also where it has another table and the others only ask the same
    abbrev pub OneTold : Type 0
    OneTold =
        (a b : Automaton) (room : ℕ) (calls others : List Call) (told other : Status) (table mine : List Record)
        → SameCalls calls others → LedTo a b room calls told bench table → LedTo a b room others other bench mine → other ≡ told

    -- with a table whose first records are no longer the slip's, these calls do not lead to the bench any more
    abbrev pub AlteredIsNotLedTo : Type 0
    AlteredIsNotLedTo =
        (a b : Automaton) (room : ℕ) (calls : List Call) (told : Status) (table altered : List Record) (c : Certificate)
        → LedTo a b room calls told bench table → Has told c → (First c altered → ⊥)
        → (other : Status) → LedTo a b room calls other bench altered → ⊥
