-- How the reader takes a line apart. The contracts of its inner functions go by this; that of `load` does not.
use Rattle.std.specs.Prelude.{ℕ, ◌+◌, ◌-◌, ◌*◌, Bool, true, false, cond, ◌&&◌, ◌||◌, List, [], ◌∷◌, Some, None, codes, Option, ◌==◌, nat_le}
use Rattle.std.specs.Option.{option_map}
use Rattle.std.specs.Str.{bytes_eq}
use Rattle.text.specs.Pieces.{pieces}
use Rattle.text.specs.declared.entries.By.{By}
use Rattle.text.specs.declared.entries.By.TheVariants.{Letter, Every}
use Rattle.text.specs.declared.entries.StateLine.{StateLine}
use Rattle.text.specs.declared.entries.StepLine.{StepLine}
use Rattle.text.specs.declared.entries.Entry.{Entry}
use Rattle.text.specs.declared.entries.Entry.TheVariants.{Title, Count, Columns, State, Heading, Step}
use Rattle.text.specs.declared.entries.Stage.{Stage}
use Rattle.text.specs.declared.entries.Stage.TheVariants.{AtTitle, AtCount, AtColumns, AtStates, AtSteps}

pub data Word : Type 0 where
  number : ℕ → Word
  letter : ℕ → Word
  sign : ℕ → Word
  name : List ℕ → Word

-- low ≤ b ≤ high
abbrev pub within : ℕ → ℕ → ℕ → Bool
within low high b = nat_le low b && nat_le b high

-- '>', '*', '.' or '#'
abbrev pub is_sign : ℕ → Bool
is_sign b = b == 62 || (b == 42 || (b == 46 || b == 35))

abbrev pub word_of : List ℕ → Word
word_of [] = name []
word_of (b ∷ []) =
    cond (within 48 57 b) (number (b - 48)) (cond (within 97 122 b) (letter (b - 97)) (cond (is_sign b) (sign b) (name (b ∷ []))))
word_of (b ∷ c ∷ []) =
    cond (within 49 57 b && within 48 57 c) (number (10 * (b - 48) + (c - 48))) (name (b ∷ c ∷ []))
word_of (b ∷ c ∷ d ∷ w) = name (b ∷ c ∷ d ∷ w)

pub record Three : Type 0 where
  pub first : Word
  pub second : Word
  pub third : Word

abbrev pub three_of : List (List ℕ) → Option Three
three_of [] = None
three_of (a ∷ []) = None
three_of (a ∷ b ∷ []) = None
three_of (a ∷ b ∷ c ∷ []) = Some (record { first = word_of a; second = word_of b; third = word_of c })
three_of (a ∷ b ∷ c ∷ d ∷ ws) = None

abbrev pub three_words : List ℕ → Option Three
three_words line = three_of (pieces 32 line)

abbrev pub numeral : Word → Option ℕ
numeral (number n) = Some n
numeral (letter i) = None
numeral (sign c) = None
numeral (name w) = None

-- yes by a sign of its column, no by '.'
abbrev pub flag : ℕ → Word → Option Bool
flag on (number n) = None
flag on (letter i) = None
flag on (sign c) = cond (c == on) (Some true) (cond (c == 46) (Some false) None)
flag on (name w) = None

abbrev pub by_of : Word → Option By
by_of (number n) = None
by_of (letter i) = Some (Letter i)
by_of (sign c) = cond (c == 35) (Some Every) None
by_of (name w) = None

abbrev pub named : List ℕ → Word → Bool
named text (number n) = false
named text (letter i) = false
named text (sign c) = false
named text (name w) = bytes_eq w text

abbrev pub make_state : Option ℕ → Option Bool → Option Bool → Option StateLine
make_state None s m = None
make_state (Some n) None m = None
make_state (Some n) (Some s) None = None
make_state (Some n) (Some s) (Some m) = Some (record { number = n; start = s; mark = m })

abbrev pub state_of : Three → Option StateLine
state_of t = make_state (numeral t.first) (flag 62 t.second) (flag 42 t.third)

abbrev pub make_step : Option ℕ → Option By → Option ℕ → Option StepLine
make_step None b q = None
make_step (Some p) None q = None
make_step (Some p) (Some b) None = None
make_step (Some p) (Some b) (Some q) = Some (record { from = p; by = b; to = q })

abbrev pub step_of : Three → Option StepLine
step_of t = make_step (numeral t.first) (by_of t.second) (numeral t.third)

-- the three names of a heading
abbrev pub heads : List ℕ → List ℕ → List ℕ → Three → Bool
heads a b c t = named a t.first && (named b t.second && named c t.third)

abbrev pub read_columns : Option Three → Option Entry
read_columns None = None
read_columns (Some t) = cond (heads (codes "state") (codes "start") (codes "mark") t) (Some Columns) None

abbrev pub read_state : Option Three → Option Entry
read_state None = None
read_state (Some t) = cond (heads (codes "from") (codes "by") (codes "to") t) (Some Heading) (option_map State (state_of t))

abbrev pub read_step : Option Three → Option Entry
read_step None = None
read_step (Some t) = option_map Step (step_of t)

-- what a line says, where it has the form that its stage asks for
abbrev pub read_entry : Stage → List ℕ → Option Entry
read_entry AtTitle line = cond (named (codes "letters") (word_of line)) (Some Title) None
read_entry AtCount line = option_map Count (numeral (word_of line))
read_entry AtColumns line = read_columns (three_words line)
read_entry AtStates line = read_state (three_words line)
read_entry AtSteps line = read_step (three_words line)
