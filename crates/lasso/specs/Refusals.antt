-- What a reader is told where a lasso is refused.
use Rattle.fault.specs.Refusals.{plain}
use Rattle.fault.specs.declared.Refusal.{Refusal}
use Rattle.lasso.specs.declared.faults.LassoFault.{LassoFault}
use Rattle.lasso.specs.declared.faults.LassoFault.TheVariants.{Limits, Letter}

abbrev pub lasso_refusal : LassoFault → Refusal
lasso_refusal Limits = plain 8
lasso_refusal Letter = plain 8
