-- A text cut at a separator: at line feeds into lines, at spaces into words.
use Rattle.std.specs.Prelude.{ℕ, cond, List, [], ◌∷◌, ◌==◌}

-- what stands before the first separator s, all of the text where there is none
abbrev pub front : ℕ → List ℕ → List ℕ
front s [] = []
front s (b ∷ bs) = cond (b == s) [] (b ∷ front s bs)

-- the pieces after the first separator
abbrev pub later : ℕ → List ℕ → List (List ℕ)
later s [] = []
later s (b ∷ bs) = cond (b == s) (front s bs ∷ later s bs) (later s bs)

-- All pieces, at least one; the last is what has no separator after it.
abbrev pub pieces : ℕ → List ℕ → List (List ℕ)
pieces s text = front s text ∷ later s text
