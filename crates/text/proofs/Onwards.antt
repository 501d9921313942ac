-- From one line to the next.
use Rattle.std.proofs.Common.{◌≡◌, ℕ, ◌+◌, true, cond, List, ◌∷◌, Some, Ok, Option, sym, ap, ◌∙◌, subst}
use Rattle.fault.specs.declared.TextFault.{TextFault}
use Rattle.fault.specs.declared.TextFault.TheVariants.{Form, Range}
use Rattle.text.specs.Documents.{Document}
use Rattle.text.specs.Pieces.{pieces}
use Rattle.text.specs.Reading.{Context, go, range, Verdict, fine, fits, after, taken, onward, judge, verdict, Told, Went, Turned}
use Rattle.text.specs.Words.{read_entry}
use Rattle.text.specs.declared.cursors.Cursor.{Cursor}
use Rattle.text.specs.declared.entries.Entry.{Entry}
use Rattle.text.specs.declared.entries.Stage.{Stage}

-- what is left, after a line that was read as o
abbrev pub left : ℕ → List ℕ → Document → Option Entry → Verdict
left n rest d o = onward n (λ k. judge k (n + 1) (pieces 10 rest)) (taken d o)

pub read_on : (text : List ℕ) (k : Context) (n : ℕ) (all line rest : List ℕ) (s : Stage) (o : Option Entry) → verdict text ≡ judge k n (pieces 10 all) → pieces 10 all ≡ line ∷ pieces 10 rest → s ≡ k.stage → o ≡ read_entry s line → verdict text ≡ left n rest k.sofar o
read_on text k n all line rest s o same cut st read =
    same ∙ ap (judge k n) cut
    ∙ ap (left n rest k.sofar) (sym (read ∙ ap (λ x. read_entry x line) st))

-- an entry that is in range
pub left_fit : (n : ℕ) (rest : List ℕ) (d : Document) (e : Entry) → fits d e ≡ true → left n rest d (Some e) ≡ judge (after d e) (n + 1) (pieces 10 rest)
left_fit n rest d e f = ap (λ b. onward n (λ k. judge k (n + 1) (pieces 10 rest)) (cond b (go (after d e)) range)) f

pub told_not_fine : (v : Verdict) (e : TextFault) (d : Document) → Told v e → v ≡ fine d → ⊥
told_not_fine v (Form n) d t f = cc
told_not_fine v (Range n) d t f = cc

-- an entry that a cursor gave was read
pub went : (text : List ℕ) (k : Context) (c : Cursor) (o : Option Entry) (e : Entry) → o ≡ Some e → Turned text k c (Ok o) → Went text k e c
went text k c o e p t = subst (λ x. Turned text k c (Ok x)) p t
