use Rattle.rank.proofs.Deciding.{lassos_tell}
use Rattle.rank.proofs.containment.lassos_tell.Goals as goal

pub returns : goal.returns
returns c = lassos_tell
