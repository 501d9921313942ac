-- At which line a text is refused, and whether for its form or for its range.
use Rattle.std.specs.Prelude.{◌≡◌, ℕ, ◌+◌, ◌⊎◌, List, [], ◌∷◌, ◌++◌, All, length}
use Rattle.chart.specs.Automata.{Automaton}
use Rattle.text.specs.Documents.{Document, entries, lines_of, Legible, InRange, Tells}
use Rattle.text.specs.Pieces.{pieces}
use Rattle.fault.specs.declared.TextFault.{TextFault}
use Rattle.fault.specs.declared.TextFault.TheVariants.{Form, Range}

-- the lines are the first of some document that P holds of
abbrev pub Begin : (Document → Type 0) → List (List ℕ) → Type 0
Begin P lines = (d : Document) × (rest : List (List ℕ)) × P d × (lines_of d ≡ lines ++ rest)

-- a document that can be written at all, in range or not
abbrev pub Writable : Document → Type 0
Writable d = All Legible (entries d)

-- The text up to its n-th line: the lines before begin a document in range.
pub record Reaches (text : List ℕ) (n : ℕ) : Type 0 where
  pub before : List (List ℕ)
  pub line : List ℕ
  pub after : List (List ℕ)
  pub split : pieces 10 text ≡ before ++ line ∷ after
  pub place : n ≡ length before + 1
  pub begun : Begin InRange before

-- Line n has the wrong form: no document goes on with it, or no line feed stands behind it.
pub record WrongForm (text : List ℕ) (n : ℕ) : Type 0 where
  pub reaches : Reaches text n
  pub wrong : (reaches.after ≡ []) ⊎ (Begin Writable (reaches.before ++ reaches.line ∷ []) → ⊥)

-- Line n is out of range: a document goes on with it, and none in range does.
pub record OutOfRange (text : List ℕ) (n : ℕ) : Type 0 where
  pub reaches : Reaches text n
  pub ended : reaches.after ≡ [] → ⊥
  pub formed : Begin Writable (reaches.before ++ reaches.line ∷ [])
  pub wrong : Begin InRange (reaches.before ++ reaches.line ∷ []) → ⊥

abbrev pub WrongAt : List ℕ → TextFault → Type 0
WrongAt text (Form n) = WrongForm text n
WrongAt text (Range n) = OutOfRange text n

-- The text tells no chart, and this is its first wrong line: no other number and line would be right.
pub record TextRefused (text : List ℕ) (e : TextFault) : Type 0 where
  pub none : (m : Automaton) → Tells text m → ⊥
  pub wrong : WrongAt text e
  pub only : (f : TextFault) → WrongAt text f → f ≡ e
