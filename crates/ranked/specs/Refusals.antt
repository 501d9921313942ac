-- What a reader is told where a duty and a rule do not go together.
use Rattle.fault.specs.Refusals.{plain}
use Rattle.fault.specs.declared.Refusal.{Refusal}
use Rattle.ranked.specs.declared.faults.InstanceFault.{InstanceFault}
use Rattle.ranked.specs.declared.faults.InstanceFault.TheVariants.{Letters, States}

abbrev pub instance_refusal : InstanceFault → Refusal
instance_refusal Letters = plain 5
instance_refusal States = plain 6
