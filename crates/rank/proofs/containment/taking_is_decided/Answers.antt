use Rattle.rank.proofs.Deciding.{taking_is_decided}
use Rattle.rank.proofs.containment.taking_is_decided.Goals as goal

pub returns : goal.returns
returns c = taking_is_decided
