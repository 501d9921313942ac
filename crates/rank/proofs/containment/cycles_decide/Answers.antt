use Rattle.rank.proofs.Deciding.{cycles_decide}
use Rattle.rank.proofs.containment.cycles_decide.Goals as goal

pub returns : goal.returns
returns c = cycles_decide
