use Rattle.std.proofs.Common.{length}
use Rattle.text.specs.Documents.{some_tells}
use Rattle.text.specs.Reading.{Context, Stands}
use Rattle.text.specs.Rows.{Adds}
use Rattle.text.proofs.loading.fill.Given as goal

abbrev pub invariant-loop-entry : goal.invariant-loop-entry
invariant-loop-entry l =
    record {
      context : Context;
      stands : Stands l.text context l.cursor;
      adds : Adds l.initial.rows l.rows (some_tells l.initial.rows.chart.letters context.sofar.steps);
    }

abbrev pub decreases-loop-entry : goal.decreases-loop-entry
decreases-loop-entry l = length l.cursor.rest.text.now
