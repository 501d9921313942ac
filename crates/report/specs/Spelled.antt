-- The letters of records, and how they are written.
use Rattle.std.specs.Prelude.{ℕ, ◌+◌, ◌<◌, List, [], ◌∷◌, codes, length, map}
use Rattle.records.specs.Tables.{letter_at}
use Rattle.records.specs.declared.record.Record.{Record}

-- each is a letter that a chart may have
abbrev pub Known : List Record → Type 0
Known rs = (k : ℕ) → k < length rs → letter_at rs k < 16

-- letter 0 is written 'a'
abbrev pub letter_sign : Record → ℕ
letter_sign r = 97 + r.letter

-- no letter at all is written '-'
abbrev pub letters_text : List Record → List ℕ
letters_text [] = codes "-"
letters_text (r ∷ rs) = map letter_sign (r ∷ rs)
