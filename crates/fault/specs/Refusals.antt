-- What a reader is told of a refusal, and what the faults of texts and of charts tell. Each layer above spells out its own faults in
-- the same words, and holds those of the layers below as they stand.
use Rattle.std.specs.Prelude.{ℕ, None}
use Rattle.fault.specs.declared.ChartFault.{ChartFault}
use Rattle.fault.specs.declared.ChartFault.TheVariants.{Text, FewRows, Limits}
use Rattle.fault.specs.declared.Refusal.{Refusal}
use Rattle.fault.specs.declared.TextFault.{TextFault}
use Rattle.fault.specs.declared.TextFault.TheVariants.{Form, Range}

-- a refusal that tells a line or place, and no rule
abbrev pub at : ℕ → ℕ → Refusal
at number place = record { number = number; place = place; rule = None }

-- a refusal that tells its number alone
abbrev pub plain : ℕ → Refusal
plain number = at number 0

abbrev pub text_refusal : TextFault → Refusal
text_refusal (Form line) = at 1 line
text_refusal (Range line) = at 2 line

abbrev pub chart_refusal : ChartFault → Refusal
chart_refusal (Text e) = text_refusal e
chart_refusal FewRows = plain 3
chart_refusal Limits = plain 4
