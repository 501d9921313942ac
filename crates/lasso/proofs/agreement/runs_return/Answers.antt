use Rattle.lasso.proofs.Returning.{runs_return}
use Rattle.lasso.proofs.agreement.runs_return.Goals as goal

pub returns : goal.returns
returns c = runs_return
