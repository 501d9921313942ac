-- What a chart's text tells, from the writing side: a document, how it is written, and the chart that it means.
use Rattle.std.specs.Prelude.{◌≡◌, ℕ, ◌+◌, ◌/◌, ◌%◌, ◌<◌, Bool, false, cond, ◌&&◌, ◌||◌, List, [], ◌∷◌, ◌++◌, All, map, length, codes, ◌==◌, nat_lt, slice_index_or}
use Rattle.std.specs.List.{flat_map}
use Rattle.chart.specs.Automata.{Automaton, Allowed}
use Rattle.text.specs.declared.entries.By.{By}
use Rattle.text.specs.declared.entries.By.TheVariants.{Letter, Every}
use Rattle.text.specs.declared.entries.StateLine.{StateLine}
use Rattle.text.specs.declared.entries.StepLine.{StepLine}
use Rattle.text.specs.declared.entries.Entry.{Entry}
use Rattle.text.specs.declared.entries.Entry.TheVariants.{Title, Count, Columns, State, Heading, Step}

pub record Document : Type 0 where
  pub letters : ℕ
  pub states : List StateLine
  pub steps : List StepLine

-- what its lines say, in their order
abbrev pub entries : Document → List Entry
entries d = Title ∷ Count d.letters ∷ Columns ∷ (map State d.states ++ Heading ∷ map Step d.steps)

-- a number below 100 in one or two digits, without a leading zero
abbrev pub digits : ℕ → List ℕ
digits n = cond (nat_lt n 10) ((48 + n) ∷ []) ((48 + n / 10) ∷ (48 + n % 10) ∷ [])

-- a yes is written as a sign of its column, a no as '.'
abbrev pub flag_text : ℕ → Bool → ℕ
flag_text sign b = cond b sign 46

-- letters are written from 'a' on, every letter as '#'
abbrev pub by_text : By → ℕ
by_text (Letter i) = 97 + i
by_text Every = 35

-- the line of a state, with '>' for a start and '*' for a mark
abbrev pub state_text : StateLine → List ℕ
state_text s = digits s.number ++ 32 ∷ flag_text 62 s.start ∷ 32 ∷ flag_text 42 s.mark ∷ []

abbrev pub step_text : StepLine → List ℕ
step_text t = digits t.from ++ 32 ∷ by_text t.by ∷ 32 ∷ digits t.to

abbrev pub entry_text : Entry → List ℕ
entry_text Title = codes "letters"
entry_text (Count n) = digits n
entry_text Columns = codes "state start mark"
entry_text (State s) = state_text s
entry_text Heading = codes "from by to"
entry_text (Step t) = step_text t

abbrev pub lines_of : Document → List (List ℕ)
lines_of d = map entry_text (entries d)

-- each line ends with a line feed
abbrev pub ended : List ℕ → List ℕ
ended line = line ++ 10 ∷ []

abbrev pub written : Document → List ℕ
written d = flat_map ended (lines_of d)

-- What the form of a line can hold: numbers of one or two digits, letters a to z.
abbrev pub LegibleBy : By → Type 0
LegibleBy (Letter i) = i < 26
LegibleBy Every = Unit {0}

abbrev pub Legible : Entry → Type 0
Legible Title = Unit {0}
Legible (Count n) = n < 100
Legible Columns = Unit {0}
Legible (State s) = s.number < 100
Legible Heading = Unit {0}
Legible (Step t) = (t.from < 100) × LegibleBy t.by × (t.to < 100)

-- a line with no flag set, read past the last state
abbrev pub no_state : StateLine
no_state = record { number = 0; start = false; mark = false }

-- a step among k letters and n states
abbrev pub ByFits : ℕ → By → Type 0
ByFits k (Letter i) = i < k
ByFits k Every = Unit {0}

abbrev pub StepFits : ℕ → ℕ → StepLine → Type 0
StepFits k n t = (t.from < n) × ByFits k t.by × (t.to < n)

-- A document in range: 1 to 16 letters, 1 to 32 states told in order from 0, and steps among these.
pub record InRange (d : Document) : Type 0 where
  pub size : Allowed (length d.states) d.letters
  pub in_turn : (q : ℕ) → q < length d.states → (slice_index_or d.states q no_state).number ≡ q
  pub steps_fit : All (StepFits d.letters (length d.states)) d.steps

-- letter i is among those that the line names, of k letters
abbrev pub covers : ℕ → By → ℕ → Bool
covers k (Letter j) i = j == i
covers k Every i = nat_lt i k

-- the line tells the step from p by i to q
abbrev pub tells_step : ℕ → StepLine → ℕ → ℕ → ℕ → Bool
tells_step k t p i q = t.from == p && (covers k t.by i && t.to == q)

-- some line does: a step told twice counts once
abbrev pub some_tells : ℕ → List StepLine → ℕ → ℕ → ℕ → Bool
some_tells k [] p i q = false
some_tells k (t ∷ ts) p i q = tells_step k t p i q || some_tells k ts p i q

abbrev pub means : Document → Automaton
means d =
    record {
      states = length d.states;
      letters = d.letters;
      start = λ q. (slice_index_or d.states q no_state).start;
      mark = λ q. (slice_index_or d.states q no_state).mark;
      step = some_tells d.letters d.steps;
    }

-- The text is written from a document in range that means m.
pub record Tells (text : List ℕ) (m : Automaton) : Type 0 where
  pub document : Document
  pub in_range : InRange document
  pub is : written document ≡ text
  pub meaning : means document ≡ m
