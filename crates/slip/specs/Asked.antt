-- What the questions of an inspection ask.
use Rattle.std.specs.Prelude.{◌≡◌, ℕ, ◌+◌, ◌<◌, Bool, true, false, List, length, Some, None, Option, slice_index_or}
use Rattle.graph.specs.Graphs.{Graph}
use Rattle.graph.specs.Implicit.{graph_of}
use Rattle.slip.specs.Numbered.{rule_kind, rule_number}
use Rattle.slip.specs.declared.kinds.BreakRule.{BreakRule}
use Rattle.slip.specs.declared.kinds.KeepRule.{KeepRule}
use Rattle.slip.specs.declared.kinds.Rule.{Rule}
use Rattle.records.specs.declared.record.Record.{Record}
use Rattle.records.specs.Tables.{blank, node_at, measure_at}
use Rattle.slip.specs.Certificates.{Certificate}
use Rattle.slip.specs.Rules.{KeepHolds, BreakHolds, Holds}
use Rattle.slip.specs.declared.inspection.Inspection.{Inspection}

-- the record stands at place p
abbrev pub StandsAt : List Record → ℕ → Record → Type 0
StandsAt rs p r = (p < length rs) × (slice_index_or rs p blank ≡ r)

-- a measure is below the limit, if there is one
abbrev pub Within : Option ℕ → ℕ → Type 0
Within None m = Unit {0}
Within (Some most) m = m < most

-- some record has node v, with a measure below the limit, if there is one
abbrev pub Held : List Record → Option ℕ → ℕ → Type 0
Held rs most v = (k : ℕ) × (k < length rs) × (node_at rs k ≡ v) × Within most (measure_at rs k)

-- what the measures behind the edges of a node of measure m are below: they fall if it is marked
abbrev pub limit : Bool → ℕ → ℕ
limit true m = m
limit false m = m + 1

-- the rules of keep slips and those of break slips, as an inspection asks them at place p
abbrev pub MeetsKeep : {M : Type 0} → (M → List ℕ → ℕ → Graph) → Inspection M → ℕ → KeepRule → Type 0
MeetsKeep graph s = KeepHolds (graph_of graph s.graph) s.slip.records.now

abbrev pub MeetsBreak : {M : Type 0} → (M → List ℕ → ℕ → Graph) → Inspection M → ℕ → BreakRule → Type 0
MeetsBreak graph s = BreakHolds (graph_of graph s.graph) s.slip.records.now s.slip.stem

-- the rule of the lowest number that does not hold, if there is one
abbrev pub Lowest : {R : Type 0} → (R → ℕ) → (R → Type 0) → Option R → Type 0
Lowest {R} number Met None = (r : R) → Met r
Lowest {R} number Met (Some b) = (Met b → ⊥) × ((r : R) → number r < number b → Met r)

-- the same of a slip at place p, where the rule is one of the slip's kind
abbrev pub LowestAt : Graph → Certificate → ℕ → Option Rule → Type 0
LowestAt g c p None = (r : Rule) → Holds g c p r
LowestAt g c p (Some b) =
    (rule_kind b ≡ c.kind) × (Holds g c p b → ⊥) × ((r : Rule) → rule_number r < rule_number b → Holds g c p r)
