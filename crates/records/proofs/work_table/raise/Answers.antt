use Rattle.std.proofs.Common.{◌≡◌, ◌-◌, ◌≤◌, length, take, drop, refl, ◌∙◌, arith, length-drop}
use Rattle.std.proofs.lemmas.List.{length-take-le}
use Rattle.records.proofs.Raising.{risen}
use Rattle.records.proofs.work_table.raise.Goals as goal

pub returns : goal.returns
returns c =
    let work = c.args.records.now in
    let top = c.args.top in
    let done = top - (c.args.size - c.args.from) in
    let mid = c.copy_to.new.records in
    let (some, stack, table) = c.requires in
    let inside : top - done ≤ length (drop done mid) = omega (arith, length-drop done mid, c.copy_to.ensures.same_length, table) in
    let len : length (take (top - done) (drop done mid)) ≡ top - done = length-take-le (top - done) (drop done mid) inside in
    let same : length c.loop-record.record-items ≡ length (take (top - done) (drop done mid)) = c.loop-record.auto.record-items in
    risen c.args.size top c.args.from c.args.measure done work mid c.loop-record.record-items
    some stack table refl c.copy_to.ensures (same ∙ len) c.loop-record.invariant.0
    (λ k h. c.loop-record.invariant.1 k (omega (arith, same, c.loop-record-test.false)))
