use Rattle.rank.proofs.Deciding.{ranked_complements}
use Rattle.rank.proofs.containment.ranked_complements.Goals as goal

pub returns : goal.returns
returns c = ranked_complements
