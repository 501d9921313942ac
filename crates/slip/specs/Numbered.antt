-- Every rule's kind, and its number among the rules of that kind: the one definition by which contracts and output go.
use Rattle.std.specs.Prelude.{ℕ}
use Rattle.fault.specs.declared.RuleNumber.{RuleNumber}
use Rattle.fault.specs.declared.RuleNumber.TheVariants as told
use Rattle.slip.specs.declared.kinds.BreakRule.{BreakRule}
use Rattle.slip.specs.declared.kinds.BreakRule.TheVariants as breaks
use Rattle.slip.specs.declared.kinds.KeepRule.{KeepRule}
use Rattle.slip.specs.declared.kinds.KeepRule.TheVariants as keeps
use Rattle.slip.specs.declared.kinds.Kind.{Kind}
use Rattle.slip.specs.declared.kinds.Kind.TheVariants as kinds
use Rattle.slip.specs.declared.kinds.Rule.{Rule}
use Rattle.slip.specs.declared.kinds.Rule.TheVariants.{Keep, Break}

abbrev pub keep_number : KeepRule → ℕ
keep_number keeps.Node = 1
keep_number keeps.Next = 2
keep_number keeps.Starts = 3

abbrev pub break_number : BreakRule → ℕ
break_number breaks.Node = 1
break_number breaks.Start = 2
break_number breaks.Next = 3
break_number breaks.Mark = 4

abbrev pub rule_number : Rule → ℕ
rule_number (Keep r) = keep_number r
rule_number (Break r) = break_number r

abbrev pub rule_kind : Rule → Kind
rule_kind (Keep r) = kinds.Keep
rule_kind (Break r) = kinds.Break

-- how a refusal tells it
abbrev pub told_rule : Rule → RuleNumber
told_rule (Keep r) = told.Keep (keep_number r)
told_rule (Break r) = told.Break (break_number r)
