-- What each call on a bench answers, and what it leaves: for every state before it and every table. A refusal is stated together
-- with the test that it failed and those that it passed, so exactly one answer fits.
use Rattle.std.specs.Borrow.{Bor}
use Rattle.std.specs.Prelude.{◌≡◌, ℕ, ◌*◌, ◌⊎◌, List, length, Result, MatchResult}
use Rattle.bench.specs.Slips.{slip_at, form_of, over, Fits, handed}
use Rattle.bench.specs.Verdicts.{Decides}
use Rattle.bench.specs.declared.states.Form.{Form}
use Rattle.bench.specs.declared.states.State.{State}
use Rattle.bench.specs.declared.states.State.TheVariants.{Empty, Drafted, Passed}
use Rattle.bench.specs.declared.verdicts.Verdict.{Verdict}
use Rattle.chart.specs.Automata.{Automaton}
use Rattle.bench.specs.declared.faults.BenchFault.{BenchFault}
use Rattle.bench.specs.declared.faults.BenchFault.TheVariants.{Room, Shape, Occupied, Vacant, Unpassed, Search, Broken}
use Rattle.records.specs.declared.faults.SearchFault.TheVariants.{Full}
use Rattle.graph.specs.Graphs.{Graph}
use Rattle.graph.specs.Walks.{More}
use Rattle.rank.specs.Ranked.{ranked_graph}
use Rattle.slip.specs.declared.kinds.Kind.TheVariants.{Keep}
use Rattle.records.specs.declared.record.Record.{Record}
use Rattle.slip.specs.Certificates.{Certificate}
use Rattle.slip.specs.Rules.{Meets, FirstBreach}
use Rattle.slip.specs.Measured.{Measured}

-- the slip table has twice as many records as the room
abbrev pub Sized : ℕ → List Record → Type 0
Sized room table = length table ≡ 2 * room

-- nothing is altered
pub record Same (s : State) (table : List Record) (s' : State) (table' : List Record) : Type 0 where
  pub same_state : s' ≡ s
  pub same_table : table' ≡ table

-- there is a slip of this form
abbrev pub Formed : State → Form → Type 0
Formed s f = (s ≡ Drafted f) ⊎ (s ≡ Passed f)

-- What judge may leave for a verdict. Keep: each reachable node once, with letter 0 and its measure. Break: any slip that meets
-- the rules.
pub record Drafts (g : Graph) (room : ℕ) (v : Verdict) (c : Certificate) : Type 0 where
  pub kind : c.kind ≡ v.kind
  pub fits : Fits room c
  pub meets : Meets g c
  pub measured : v.kind ≡ Keep → (length c.records ≡ v.nodes) × Measured g c.records

module _ (a b : Automaton) (room : ℕ) (s : State) (table : List Record) where
  module _ (work : List Record) (s' : State) (table' work' : List Record) where
    pub record Judged (v : Verdict) : Type 0 where
      pub sized : Sized room table
      pub work_sized : length work ≡ room
      pub free : s ≡ Empty
      pub decides : Decides a b room v
      pub slip : Certificate
      pub drafts : Drafts (ranked_graph a b) room v slip
      pub state : s' ≡ Drafted (form_of slip)
      pub changed : table' ≡ over slip.records table

    -- 7 comes before 10, and 10 before 13, after which the work table is free.
    abbrev pub JudgeRefused : BenchFault → Type 0
    JudgeRefused Room = (Sized room table × (length work ≡ room) → ⊥) × Same s table s' table' × (work' ≡ work)
    JudgeRefused Occupied =
        Sized room table × (length work ≡ room) × (s ≡ Empty → ⊥) × Same s table s' table' × (work' ≡ work)
    JudgeRefused (Search Full) =
        Sized room table × (length work ≡ room) × (s ≡ Empty) × More (ranked_graph a b) room × Same s table s' table'
    JudgeRefused _ = ⊥

    abbrev pub JudgeTells : Result Verdict BenchFault → Type 0
    JudgeTells r = MatchResult r Judged JudgeRefused

  module _ (c : Certificate) (s' : State) (table' : List Record) where
    pub record Put : Type 0 where
      pub sized : Sized room table
      pub free : s ≡ Empty
      pub fits : Fits room c
      pub state : s' ≡ Drafted (form_of c)
      pub changed : table' ≡ over c.records table

    -- 7 comes before 10, and 10 before 9.
    abbrev pub PutRefused : BenchFault → Type 0
    PutRefused Room = (Sized room table → ⊥) × Same s table s' table'
    PutRefused Occupied = Sized room table × (s ≡ Empty → ⊥) × Same s table s' table'
    PutRefused Shape = Sized room table × (s ≡ Empty) × (Fits room c → ⊥) × Same s table s' table'
    PutRefused _ = ⊥

    abbrev pub PutTells : Result (Unit {0}) BenchFault → Type 0
    PutTells r = MatchResult r (λ _. Put) PutRefused

  module _ (s' : State) where
    pub record Inspected : Type 0 where
      pub sized : Sized room table
      pub form : Form
      pub formed : Formed s form
      pub meets : Meets (ranked_graph a b) (slip_at form table)
      pub state : s' ≡ Passed form

    -- 7 comes before 11, and 11 before 14, which leaves the slip drafted.
    abbrev pub InspectRefused : BenchFault → Type 0
    InspectRefused Room = (Sized room table → ⊥) × (s' ≡ s)
    InspectRefused Vacant = Sized room table × (s ≡ Empty) × (s' ≡ s)
    InspectRefused (Broken breach) =
        Sized room table
        × ((f : Form) × Formed s f × FirstBreach (ranked_graph a b) (slip_at f table) breach × (s' ≡ Drafted f))
    InspectRefused _ = ⊥

    abbrev pub InspectTells : Result (Unit {0}) BenchFault → Type 0
    InspectTells r = MatchResult r (λ _. Inspected) InspectRefused

  -- inspect, called next, passes the slip
  abbrev pub WillPass : Type 0
  WillPass = (s' : State) (e : BenchFault) → InspectRefused s' e → ⊥

  pub record Released (out : List Record) : Type 0 where
    pub sized : Sized room table
    pub form : Form
    pub passed : s ≡ Passed form
    pub hands : out ≡ handed (slip_at form table)

  -- 7 comes before 11, and 11 before 12.
  abbrev pub ReleaseRefused : BenchFault → Type 0
  ReleaseRefused Room = Sized room table → ⊥
  ReleaseRefused Vacant = Sized room table × (s ≡ Empty)
  ReleaseRefused Unpassed = Sized room table × ((f : Form) × (s ≡ Drafted f))
  ReleaseRefused _ = ⊥

  abbrev pub ReleaseTells : Result (Bor (List Record)) BenchFault → Type 0
  ReleaseTells r = MatchResult r (λ out. Released out.now) ReleaseRefused
