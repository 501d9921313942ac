use Rattle.rank.proofs.Deciding.{measures_tell}
use Rattle.rank.proofs.containment.measures_tell.Goals as goal

pub returns : goal.returns
returns c = measures_tell
