use Rattle.std.proofs.Common.{refl}
use Rattle.ranked.proofs.Reading.{reads}
use Rattle.ranked.proofs.nodes.Parts.read.Goals as goal

pub returns : goal.returns
returns c = reads c.args.v _ refl refl refl refl
