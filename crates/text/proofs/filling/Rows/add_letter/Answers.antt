use Rattle.std.proofs.Common.{refl, arith}
use Rattle.text.proofs.Cells.{added_letter}
use Rattle.text.proofs.filling.Rows.add_letter.Goals as goal

pub returns : goal.returns
returns c =
    record {
      same_reference = refl;
      chart = refl;
      added =
          added_letter c.args.self.now.chart c.args.self.now.cells.now c.args.from c.args.i c.args.to c.with.result
          c.requires.from_within c.requires.letter_within c.args.self.now.enough c.requires.to_within (c.with.ensures.small (omega arith));
    }
