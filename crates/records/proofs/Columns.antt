-- The columns of a table, after a record is written.
use Rattle.std.proofs.Common.{◌≡◌, ℕ, ◌<◌, List, length, get_or, set, sym, ap, ◌∙◌}
use mathlib.Core.Path.{fun_ext}
use Rattle.std.proofs.lemmas.List.{get_or-set_same, get_or-set_other}
use Rattle.records.specs.declared.record.Record.{Record}
use Rattle.records.specs.Tables.{blank}
use Rattle.numbers.specs.Puts.{put}
use Rattle.numbers.proofs.Puts.{by_place, put_same, put_other}

-- a function of the records, by places
abbrev pub column : (Record → ℕ) → List Record → ℕ → ℕ
column f work i = f (get_or work i blank)

pub column_set : (f : Record → ℕ) (work : List Record) (i : ℕ) (r : Record) → i < length work
    → column f (set work i r) ≡ put (column f work) i (f r)
column_set f work i r h =
    fun_ext
    (λ u. by_place (λ u. column f (set work i r) u ≡ put (column f work) i (f r) u) i u
    (ap f (get_or-set_same work i r blank h) ∙ sym (put_same (column f work) i (f r)))
    (λ ne. ap f (get_or-set_other work i u r blank ne) ∙ sym (put_other (column f work) i (f r) u ne)))
