-- What a reader is told where a slip is refused.
use Rattle.fault.specs.Refusals.{plain}
use Rattle.fault.specs.declared.Refusal.{Refusal}
use Rattle.lasso.specs.Refusals.{lasso_refusal}
use Rattle.slip.specs.declared.faults.SlipFault.{SlipFault}
use Rattle.slip.specs.declared.faults.SlipFault.TheVariants.{Lasso, Shape}

abbrev pub slip_refusal : SlipFault → Refusal
slip_refusal (Lasso e) = lasso_refusal e
slip_refusal Shape = plain 9
