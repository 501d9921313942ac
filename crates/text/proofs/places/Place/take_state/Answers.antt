use Rattle.std.proofs.Common.{refl, arith}
use Rattle.std.proofs.lemmas.Grind.{common_steps}
use Rattle.std.proofs.lemmas.List.{length_push}
use Rattle.text.proofs.places.Place.take_state.Goals as goal

pub returns : goal.returns
returns c = λ k h.
    record {
      fit = grind (arith, common_steps);
      holds =
          record {
            stage = refl;
            numbers =
                record {
                  letters = h.numbers.letters;
                  states = omega (arith, length_push k.sofar.states c.args.state);
                  few = omega (arith, length_push k.sofar.states c.args.state);
                  starts = λ q. grind (arith, common_steps, h.numbers.starts q, c.with_if-starts.ensures q);
                  marks = λ q. grind (arith, common_steps, h.numbers.marks q, c.with_if-marks.ensures q);
                };
          };
    }
