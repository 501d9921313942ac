use Rattle.std.proofs.Common.{length}
use Rattle.text.specs.Reading.{Context, Stands}
use Rattle.text.proofs.loading.survey.Given as goal

abbrev pub invariant-loop : goal.invariant-loop
invariant-loop l = (k : Context) × Stands l.text k l.cursor

abbrev pub decreases-loop : goal.decreases-loop
decreases-loop l = length l.cursor.rest.text.now
