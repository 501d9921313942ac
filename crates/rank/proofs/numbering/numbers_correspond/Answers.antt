use Rattle.rank.proofs.Numbers.{numbers_correspond}
use Rattle.rank.proofs.numbering.numbers_correspond.Goals as goal

pub returns : goal.returns
returns c = numbers_correspond
