use Rattle.lasso.proofs.Places.{places_repeat}
use Rattle.lasso.proofs.agreement.places_repeat.Goals as goal

pub returns : goal.returns
returns c = places_repeat
