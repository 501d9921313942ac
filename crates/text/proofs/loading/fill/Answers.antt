use Rattle.std.proofs.Common.{sym, ◌∙◌}
use Rattle.text.specs.Documents.{some_tells}
use Rattle.text.specs.Pieces.{pieces}
use Rattle.text.specs.Reading.{after}
use Rattle.text.specs.Rows.{tells}
use Rattle.text.proofs.Cells.{adds_more}
use Rattle.text.proofs.Fills.{told_after, fits_whole}
use Rattle.text.proofs.Onwards.{went}
use Rattle.text.proofs.loading.fill.Goals as goal

pub add_entry-requires : goal.add_entry-requires
add_entry-requires c =
    let v = c.loop-entry.invariant in
    let x = c.in-Ok-Some.entry in
    let next = c.advance.new.self in
    let w = went c.args.text.now v.context next _ x c.in-Ok-Some.field-0-is (c.in-Ok-Some.ensures.turned c.args.text.now v.context v.stands) in
    rw v.adds.chart
    (fits_whole c.args.rows.now.chart c.requires.document v.context.sofar x next.rest.line (pieces 10 next.rest.text.now) c.requires.numbers w.reads (sym w.stands.same ∙ c.requires.verdict_is))

pub loop-entry-preserved : goal.loop-entry-preserved
loop-entry-preserved c =
    let v = c.loop-entry.invariant in
    let k = v.context.sofar in
    let x = c.in-Ok-Some.entry in
    let n = c.args.rows.now.chart.letters in
    let w = went c.args.text.now v.context c.advance.new.self _ x c.in-Ok-Some.field-0-is (c.in-Ok-Some.ensures.turned c.args.text.now v.context v.stands) in
    record {
      context = after k x;
      stands = w.stands;
      adds =
          adds_more c.args.rows.now c.loop-entry.rows c.add_entry.new.self (some_tells n k.steps)
          (tells c.loop-entry.rows.chart.letters x) (some_tells n (after k x).sofar.steps) v.adds c.add_entry.ensures
          (rw v.adds.chart (told_after n k x));
    }
