-- The calls that were made on a bench, and what they tell of it: whether it is empty, drafted or passed, and which slip it has.
-- Nothing here speaks of what the bench itself holds.
use Rattle.std.specs.Borrow.{Bor}
use Rattle.std.specs.Prelude.{◌≡◌, ℕ, ◌⊎◌, Bool, true, false, List, [], ◌∷◌, length, take, Ok, Err, Result}
use Rattle.bench.specs.Calls.{Drafts}
use Rattle.bench.specs.Slips.{Fits, handed, over}
use Rattle.bench.specs.Verdicts.{Decides}
use Rattle.bench.specs.declared.verdicts.Verdict.{Verdict}
use Rattle.chart.specs.Automata.{Automaton}
use Rattle.bench.specs.declared.faults.BenchFault.{BenchFault}
use Rattle.bench.specs.declared.faults.BenchFault.TheVariants.{Room, Shape, Occupied, Vacant, Unpassed, Search, Broken}
use Rattle.records.specs.declared.faults.SearchFault.TheVariants.{Full}
use Rattle.graph.specs.Walks.{More}
use Rattle.rank.specs.Ranked.{ranked_graph}
use Rattle.slip.specs.declared.kinds.Kind.TheVariants.{Break}
use Rattle.records.specs.declared.record.Record.{Record}
use Rattle.slip.specs.Certificates.{Certificate}
use Rattle.slip.specs.Rules.{Meets, FirstBreach}
use Rattle.bench.specs.Showing.{Shows}

-- A call, with what it was given that matters, and what it answered. A call that was lent a table of another length is one, too.
pub data Call : Type 0 where
  -- the slip table as judge left it, and its answer
  judge : List Record → Result Verdict BenchFault → Call
  -- the slip that was given, and the answer
  put : Certificate → Result (Unit {0}) BenchFault → Call
  inspect : Result (Unit {0}) BenchFault → Call
  release : Result (Bor (List Record)) BenchFault → Call
  clear : Call

-- what calls tell of a bench
pub data Status : Type 0 where
  empty : Status
  drafted : Certificate → Status
  passed : Certificate → Status

-- there is this slip, passed or not
abbrev pub Has : Status → Certificate → Type 0
Has s c = (s ≡ drafted c) ⊎ (s ≡ passed c)

-- the first records of a table are those of the slip
abbrev pub First : Certificate → List Record → Type 0
First c table = take (length c.records) table ≡ c.records

module _ (a b : Automaton) (room : ℕ) where
  -- A slip that judge may have left with a verdict, in the first records of the table. Keep: each reachable node once, so as many
  -- records as were told. Break: some number of records with some loop place that meet the rules.
  pub record JudgeLeaves (table : List Record) (v : Verdict) (c : Certificate) : Type 0 where
    pub decides : Decides a b room v
    pub drafts : Drafts (ranked_graph a b) room v c
    pub first : First c table

  -- What one more call tells, if those before it told `was`. A refusal changes nothing, but that a failed inspection leaves the
  -- slip drafted.
  abbrev pub Follows : Call → Status → Status → Type 0
  Follows (judge table (Ok v)) was now = (was ≡ empty) × ((c : Certificate) × JudgeLeaves table v c × (now ≡ drafted c))
  Follows (judge table (Err Occupied)) was now = (was ≡ empty → ⊥) × (now ≡ was)
  Follows (judge table (Err (Search Full))) was now = (was ≡ empty) × More (ranked_graph a b) room × (now ≡ was)
  Follows (put c (Ok u)) was now = (was ≡ empty) × Fits room c × (now ≡ drafted c)
  Follows (put c (Err Occupied)) was now = (was ≡ empty → ⊥) × (now ≡ was)
  Follows (put c (Err Shape)) was now = (was ≡ empty) × (Fits room c → ⊥) × (now ≡ was)
  Follows (inspect (Ok u)) was now = (c : Certificate) × Has was c × Meets (ranked_graph a b) c × (now ≡ passed c)
  Follows (inspect (Err Vacant)) was now = (was ≡ empty) × (now ≡ was)
  Follows (inspect (Err (Broken breach))) was now =
      (c : Certificate) × Has was c × FirstBreach (ranked_graph a b) c breach × (now ≡ drafted c)
  Follows (release (Ok out)) was now = (c : Certificate) × (was ≡ passed c) × (out.now ≡ handed c) × (now ≡ was)
  Follows (release (Err Vacant)) was now = (was ≡ empty) × (now ≡ was)
  Follows (release (Err Unpassed)) was now = ((c : Certificate) × (was ≡ drafted c)) × (now ≡ was)
  Follows clear was now = now ≡ empty
  -- refused by 7
  Follows (judge table (Err Room)) was now = now ≡ was
  Follows (put c (Err Room)) was now = now ≡ was
  Follows (inspect (Err Room)) was now = now ≡ was
  Follows (release (Err Room)) was now = now ≡ was
  -- no call answers anything else
  Follows _ was now = ⊥

  -- what the calls since the bench was made tell, of which the last comes first
  abbrev pub Tells : List Call → Status → Type 0
  Tells [] now = now ≡ empty
  Tells (call ∷ calls) now = (was : Status) × Tells calls was × Follows call was now

-- What a call makes of the table, if `now` is told after it: a granted judge or put writes its slip over the first records, and the
-- others stay; no other call alters a record.
abbrev pub Writes : Call → Status → List Record → List Record → Type 0
Writes (judge left (Ok v)) now was table = (c : Certificate) × (now ≡ drafted c) × (table ≡ over c.records was)
Writes (put c (Ok u)) now was table = table ≡ over c.records was
Writes call now was table = table ≡ was

-- whether it is refused by 7, since a table has another length
abbrev pub is_wrong_size : {A : Type 0} → Result A BenchFault → Bool
is_wrong_size (Err Room) = true
is_wrong_size r = false

-- the call was refused by 7
abbrev pub WrongSize : Call → Type 0
WrongSize (judge table r) = is_wrong_size r ≡ true
WrongSize (put c r) = is_wrong_size r ≡ true
WrongSize (inspect r) = is_wrong_size r ≡ true
WrongSize (release r) = is_wrong_size r ≡ true
WrongSize clear = ⊥

-- the call is judge's
abbrev pub IsJudge : Call → Type 0
IsJudge (judge table r) = Unit {0}
IsJudge _ = ⊥

-- The same was asked, and of judge the answer and the table that it left are the same, too. Whether a table of another length was
-- lent, which is refused by 7, belongs to what is asked.
abbrev pub SameCall : Call → Call → Type 0
SameCall (judge left r) (judge right q) = (left ≡ right) × (r ≡ q)
SameCall (put c r) (put d q) = (c ≡ d) × (is_wrong_size r ≡ is_wrong_size q)
SameCall (inspect r) (inspect q) = is_wrong_size r ≡ is_wrong_size q
SameCall (release r) (release q) = is_wrong_size r ≡ is_wrong_size q
SameCall clear clear = Unit {0}
SameCall _ _ = ⊥

abbrev pub SameCalls : List Call → List Call → Type 0
SameCalls [] [] = Unit {0}
SameCalls (call ∷ calls) (other ∷ others) = SameCall call other × SameCalls calls others
SameCalls _ _ = ⊥

-- since the last clear, judge told a break and left this table
abbrev pub JudgedBreak : List Call → List Record → Type 0
JudgedBreak [] table = ⊥
JudgedBreak (judge left (Ok v) ∷ calls) table = (v.kind ≡ Break) × (left ≡ table)
JudgedBreak (clear ∷ calls) table = ⊥
JudgedBreak (call ∷ calls) table = JudgedBreak calls table

-- some number of the first records of the table, with some loop place, that meet the rules of break slips
pub record SomeBreak (a b : Automaton) (table : List Record) (c : Certificate) : Type 0 where
  pub kind : c.kind ≡ Break
  pub first : First c table
  pub meets : Meets (ranked_graph a b) c

-- Two slips of judge: they differ at most in how many of the first records of the table that it left for a break belong to them,
-- and in the loop place.
pub record TwoBreakSlips (a b : Automaton) (calls : List Call) (c d : Certificate) : Type 0 where
  pub table : List Record
  pub broke : JudgedBreak calls table
  pub left : SomeBreak a b table c
  pub right : SomeBreak a b table d

abbrev pub AlikeSlips : Automaton → Automaton → List Call → Certificate → Certificate → Type 0
AlikeSlips a b calls c d = (c ≡ d) ⊎ TwoBreakSlips a b calls c d

-- the same is told, up to that one freedom
abbrev pub Alike : Automaton → Automaton → List Call → Status → Status → Type 0
Alike a b calls empty empty = Unit {0}
Alike a b calls (drafted c) (drafted d) = AlikeSlips a b calls c d
Alike a b calls (passed c) (passed d) = AlikeSlips a b calls c d
Alike a b calls s t = ⊥

-- What is told is a function of what was asked, of judge's answers and of the tables that it left, up to that one freedom.
abbrev pub AskedAlike : Type 0
AskedAlike =
    (a b : Automaton) (room : ℕ) (calls others : List Call) (told other : Status) → SameCalls calls others
    → Tells a b room calls told → Tells a b room others other → Alike a b calls told other

-- what is told to be passed is true
abbrev pub Sound : Automaton → Automaton → Status → Type 0
Sound a b empty = Unit {0}
Sound a b (drafted c) = Unit {0}
Sound a b (passed c) = Shows a b c

-- out is what is handed out of the slip that is told to be passed, and the slip is true
pub record HandsOut (a b : Automaton) (told : Status) (out : List Record) : Type 0 where
  pub slip : Certificate
  pub passed : told ≡ Status.passed slip
  pub hands : out ≡ handed slip
  pub shows : Shows a b slip

-- no slip is told to be passed
abbrev pub NoPassed : Status → Type 0
NoPassed told = (c : Certificate) → told ≡ passed c → ⊥
