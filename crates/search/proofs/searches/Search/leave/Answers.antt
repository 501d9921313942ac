use Rattle.std.proofs.Common.{◌/◌, ◌%◌, ◌<◌, sym, ap, ◌∙◌, subst, arith}
use Rattle.search.specs.Progress.{Progress, progress}
use Rattle.records.specs.declared.record.Record.{Record}
use Rattle.records.specs.Tables.{node_at, letter_at}
use Rattle.search.specs.Searches.{GoesOn}
use Rattle.search.proofs.Leaving.{step_left}
use Rattle.search.proofs.Moves.{changed_letter}
use Rattle.search.proofs.searches.Search.leave.Goals as goal

pub go_on-requires : goal.go_on-requires
go_on-requires c =
    let work = c.args.self.now.table.work.now in
    let letter = changed_letter _ _ _ _ _ c.lower.ensures.changed in
    let up = c.parent-up.ensures ∙ ap (λ (r : Record). r.measure / 65536) c.record-explored.ensures in
    let left : letter_at work c.parent-up.result < 255 = subst (λ y. letter_at work y < 255) (sym up) c.requires.letter in
    (omega (arith, ap (λ (p : Progress). p.size) c.lower.ensures.progress, c.requires.parent), omega arith)

pub returns-clause-stepped : goal.returns-clause-stepped
returns-clause-stepped c g b e falls =
    let s = c.args.self.now in
    let up = c.parent-up.ensures ∙ ap (λ (r : Record). r.measure / 65536) c.record-explored.ensures in
    let low = c.low_link.ensures ∙ ap (λ (r : Record). r.measure % 65536) c.record-explored.ensures in
    let goes : GoesOn c.parent-up.result (node_at s.table.work.now s.cur) (progress c.lower.new.self) c.lower.new.self.table.work.now c.go_on.new.self.table.work.now (progress c.go_on.new.self) =
    subst (λ (r : Record). GoesOn c.parent-up.result r.node (progress c.lower.new.self) c.lower.new.self.table.work.now c.go_on.new.self.table.work.now (progress c.go_on.new.self)) c.record-explored.ensures c.go_on.ensures.goes_on in
    step_left g (progress s) (progress c.lower.new.self) (progress c.go_on.new.self) c.parent-up.result c.low_link.result s.table.work.now c.lower.new.self.table.work.now c.go_on.new.self.table.work.now
    b e falls up low c.lower.ensures.same_table.len c.lower.ensures.changed c.lower.ensures.progress c.go_on.ensures.same_table.len goes
