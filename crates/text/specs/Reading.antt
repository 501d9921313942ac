-- How the reader goes from line to line. The contracts of its inner functions go by this; that of `load` does not.
use Rattle.std.specs.Prelude.{◌≡◌, ℕ, ◌+◌, ◌^◌, ◌<◌, ◌≤◌, Bool, true, false, cond, ◌&&◌, List, [], ◌∷◌, ◌++◌, length, Some, None, Ok, Err, Option, Result, MatchOption, ◌==◌, nat_le, nat_lt, slice_index_or}
use Rattle.numbers.specs.Bits.{bit}
use Rattle.fault.specs.declared.TextFault.{TextFault}
use Rattle.fault.specs.declared.TextFault.TheVariants.{Form, Range}
use Rattle.text.specs.Documents.{Document, no_state}
use Rattle.text.specs.Pieces.{pieces}
use Rattle.text.specs.Words.{read_entry}
use Rattle.text.specs.declared.entries.By.{By}
use Rattle.text.specs.declared.entries.By.TheVariants.{Letter, Every}
use Rattle.text.specs.declared.entries.StepLine.{StepLine}
use Rattle.text.specs.declared.entries.Entry.{Entry}
use Rattle.text.specs.declared.entries.Entry.TheVariants.{Title, Count, Columns, State, Heading, Step}
use Rattle.text.specs.declared.entries.Stage.{Stage}
use Rattle.text.specs.declared.entries.Stage.TheVariants.{AtTitle, AtCount, AtColumns, AtStates, AtSteps}
use Rattle.text.specs.declared.loading.Loaded.{Loaded}
use Rattle.text.specs.declared.places.Place.{Place}
use Rattle.text.specs.declared.cursors.Cursor.{Cursor}

-- the kind of line that comes next, and the document read so far
pub record Context : Type 0 where
  pub stage : Stage
  pub sofar : Document

abbrev pub at : Stage → Document → Context
at s d = record { stage = s; sofar = d }

abbrev pub first : Context
first = at AtTitle (record { letters = 0; states = []; steps = [] })

abbrev pub fits_by : ℕ → By → Bool
fits_by k (Letter i) = nat_lt i k
fits_by k Every = true

abbrev pub step_fits : ℕ → ℕ → StepLine → Bool
step_fits k n t = nat_lt t.from n && (fits_by k t.by && nat_lt t.to n)

-- an entry is in range, and a state in turn
abbrev pub fits : Document → Entry → Bool
fits d Title = true
fits d (Count n) = nat_le 1 n && nat_le n 16
fits d Columns = true
fits d (State s) = s.number == length d.states && nat_lt (length d.states) 32
fits d Heading = nat_le 1 (length d.states)
fits d (Step t) = step_fits d.letters (length d.states) t

-- what is read once the entry is, and what comes then
abbrev pub after : Document → Entry → Context
after d Title = at AtCount d
after d (Count n) = at AtColumns (record { letters = n; states = d.states; steps = d.steps })
after d Columns = at AtStates d
after d (State s) = at AtStates (record { letters = d.letters; states = d.states ++ s ∷ []; steps = d.steps })
after d Heading = at AtSteps d
after d (Step t) = at AtSteps (record { letters = d.letters; states = d.states; steps = d.steps ++ t ∷ [] })

-- what a line does: the reader goes on, or the line has the wrong form, or is out of range
pub data Next : Type 0 where
  go : Context → Next
  form : Next
  range : Next

abbrev pub taken : Document → Option Entry → Next
taken d None = form
taken d (Some e) = cond (fits d e) (go (after d e)) range

abbrev pub rule : Context → List ℕ → Next
rule k line = taken k.sofar (read_entry k.stage line)

-- on a whole text: the document that it is, or the line that is wrong
pub data Verdict : Type 0 where
  fine : Document → Verdict
  wrong_form : ℕ → Verdict
  out_of_range : ℕ → Verdict

-- the piece behind the last line feed, as line n: it has to be empty, and the steps have to be reached
abbrev pub finish : Stage → Document → ℕ → List ℕ → Verdict
finish AtTitle d n line = wrong_form n
finish AtCount d n line = wrong_form n
finish AtColumns d n line = wrong_form n
finish AtStates d n line = wrong_form n
finish AtSteps d n [] = fine d
finish AtSteps d n (b ∷ line) = wrong_form n

-- The first line that does not go on is told. `next` goes on with what is left.
abbrev pub onward : ℕ → (Context → Verdict) → Next → Verdict
onward n next (go k) = next k
onward n next form = wrong_form n
onward n next range = out_of_range n

abbrev pub judge : Context → ℕ → List (List ℕ) → Verdict
judge k n [] = wrong_form n
judge k n (line ∷ []) = finish k.stage k.sofar n line
judge k n (line ∷ (l ∷ ls)) = onward n (λ k'. judge k' (n + 1) (l ∷ ls)) (rule k line)

abbrev pub verdict : List ℕ → Verdict
verdict text = judge first 1 (pieces 10 text)

-- the numbers are those of the document
pub record Numbers (l : Loaded) (d : Document) : Type 0 where
  pub letters : l.letters ≡ d.letters
  pub states : l.states ≡ length d.states
  pub few : length d.states ≤ 32
  pub starts : (q : ℕ) → bit l.starts q ≡ (slice_index_or d.states q no_state).start
  pub marks : (q : ℕ) → bit l.marks q ≡ (slice_index_or d.states q no_state).mark

-- the reader's place stands for the kind of line that comes next, and for the document read so far
pub record Holds (p : Place) (k : Context) : Type 0 where
  pub stage : p.stage ≡ k.stage
  pub numbers : Numbers p.chart k.sofar

-- an entry that is in range leads from place to place
pub record Moves (k : Context) (e : Entry) (p : Place) : Type 0 where
  pub fit : fits k.sofar e ≡ true
  pub holds : Holds p (after k.sofar e)

-- what became of an entry at a place, whatever was read before
abbrev pub Moved : Place → Entry → Option Place → Type 0
Moved p e r = (k : Context) → Holds p k → MatchOption r (fits k.sofar e ≡ false) (Moves k e)

-- the cursor stands in the text with k read, and what is left gives the text's verdict
pub record Stands (text : List ℕ) (k : Context) (c : Cursor) : Type 0 where
  pub holds : Holds c.place k
  pub same : verdict text ≡ judge k c.rest.line (pieces 10 c.rest.text.now)
  pub counted : c.rest.line + length c.rest.text.now ≤ length text + 1
  pub short : length text < 2 ^ 63

-- a refusal by the verdict
abbrev pub Told : Verdict → TextFault → Type 0
Told v (Form n) = v ≡ wrong_form n
Told v (Range n) = v ≡ out_of_range n

-- an entry was read, and the cursor stands behind it
pub record Went (text : List ℕ) (k : Context) (e : Entry) (c : Cursor) : Type 0 where
  pub reads : fits k.sofar e ≡ true
  pub stands : Stands text (after k.sofar e) c

-- what the next line gave: an entry, the end of a text that is fine, or a refusal
abbrev pub Turned : List ℕ → Context → Cursor → Result (Option Entry) TextFault → Type 0
Turned text k c (Ok (Some e)) = Went text k e c
Turned text k c (Ok None) = (verdict text ≡ fine k.sofar) × Holds c.place k
Turned text k c (Err e) = Told (verdict text) e

-- a line that was read leaves less of the text
abbrev pub Shorter : Result (Option Entry) TextFault → ℕ → ℕ → Type 0
Shorter (Ok (Some e)) m n = m < n
Shorter (Ok None) m n = Unit {0}
Shorter (Err e) m n = Unit {0}

-- what a first pass over the text gives
pub record Surveyed (text : List ℕ) (l : Loaded) : Type 0 where
  pub document : Document
  pub verdict_is : verdict text ≡ fine document
  pub numbers : Numbers l document
