-- What a reader is told where a question on words is refused.
use Rattle.fault.specs.declared.Refusal.{Refusal}
use Rattle.lasso.specs.Refusals.{lasso_refusal}
use Rattle.member.specs.declared.faults.MemberFault.{MemberFault}
use Rattle.member.specs.declared.faults.MemberFault.TheVariants.{Word, Search}
use Rattle.records.specs.Refusals.{search_refusal}

abbrev pub member_refusal : MemberFault → Refusal
member_refusal (Word e) = lasso_refusal e
member_refusal (Search e) = search_refusal e
