-- The reader's tokens as words.
use Rattle.std.specs.Prelude.{◌≡◌, ℕ, List, ◌∷◌, ◌++◌}
use Rattle.text.specs.Pieces.{pieces}
use Rattle.text.specs.Words.{Word, number, letter, sign, name, Three, word_of}
use Rattle.text.specs.declared.words.Span.{Span}
use Rattle.text.specs.declared.words.Token.{Token}
use Rattle.text.specs.declared.words.Token.TheVariants.{Number, Letter, Sign, Name}
use Rattle.text.specs.declared.words.Trio.{Trio}

abbrev pub as_word : Token → Word
as_word (Number n s) = number n
as_word (Letter i s) = letter i
as_word (Sign c s) = sign c
as_word (Name s) = name s.text.now

abbrev pub span_of : Token → Span
span_of (Number n s) = s
span_of (Letter i s) = s
span_of (Sign c s) = s
span_of (Name s) = s

abbrev pub as_three : Trio → Three
as_three t = record { first = as_word t.first; second = as_word t.second; third = as_word t.third }

-- a token is the word that its text is, and borrows that text
pub record Classified (text : List ℕ) (line : ℕ) (t : Token) : Type 0 where
  pub word : as_word t ≡ word_of text
  pub same : (span_of t).text.now ≡ text
  pub place : (span_of t).line ≡ line

-- a span cut at its first separator s: what stands before it and what behind, on the same line
pub record CutAt (s : ℕ) (whole head rest : Span) : Type 0 where
  pub joined : whole.text.now ≡ head.text.now ++ s ∷ rest.text.now
  pub parted : pieces s whole.text.now ≡ head.text.now ∷ pieces s rest.text.now
  pub head_line : head.line ≡ whole.line
  pub rest_line : rest.line ≡ whole.line
