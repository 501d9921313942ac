-- What a reader is told where a search is refused.
use Rattle.fault.specs.Refusals.{plain}
use Rattle.fault.specs.declared.Refusal.{Refusal}
use Rattle.records.specs.declared.faults.SearchFault.{SearchFault}
use Rattle.records.specs.declared.faults.SearchFault.TheVariants.{Table, Full}

abbrev pub search_refusal : SearchFault → Refusal
search_refusal Table = plain 7
search_refusal Full = plain 13
