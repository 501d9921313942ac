use Rattle.std.proofs.Common.{ℕ, ◌<◌}
use Rattle.slip.specs.declared.kinds.Rule.{Rule}
use Rattle.slip.specs.Certificates.{content}
use Rattle.slip.specs.Rules.{Holds}
use Rattle.slip.proofs.slips.Slip.first_breach.Given as goal

-- all rules hold at the places that are passed
abbrev pub invariant-loop-place : goal.invariant-loop-place
invariant-loop-place g l =
    (p : ℕ) (r : Rule) → p < l.place → Holds (g.M.Map.graph l.map l.word.elements.now l.word.stem) (content l.self) p r
