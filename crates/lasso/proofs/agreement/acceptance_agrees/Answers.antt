use Rattle.lasso.proofs.Agreeing.{taken_is_accepted}
use Rattle.lasso.proofs.agreement.acceptance_agrees.Goals as goal

pub returns : goal.returns
returns c = taken_is_accepted
