-- What the rules of slips ask, over a graph.
use Rattle.std.specs.Prelude.{◌≡◌, ℕ, ◌<◌, ◌≤◌, true, List, length, Option, MatchOption}
use Rattle.graph.specs.Graphs.{Graph}
use Rattle.lasso.specs.Positions.{after}
use Rattle.slip.specs.Numbered.{rule_kind, rule_number}
use Rattle.slip.specs.declared.kinds.Breach.{Breach}
use Rattle.slip.specs.declared.kinds.BreakRule.{BreakRule}
use Rattle.slip.specs.declared.kinds.BreakRule.TheVariants as breaks
use Rattle.slip.specs.declared.kinds.KeepRule.{KeepRule}
use Rattle.slip.specs.declared.kinds.KeepRule.TheVariants as keeps
use Rattle.slip.specs.declared.kinds.Kind.{Kind}
use Rattle.slip.specs.declared.kinds.Kind.TheVariants.{Keep, Break}
use Rattle.slip.specs.declared.kinds.Rule.{Rule}
use Rattle.slip.specs.declared.kinds.Rule.TheVariants as of
use Rattle.records.specs.declared.record.Record.{Record}
use Rattle.records.specs.Tables.{node_at, letter_at, measure_at}
use Rattle.slip.specs.Certificates.{Certificate}

module _ (g : Graph) (rs : List Record) where
  -- What a rule of keep slips asks at place p. That each start has a record is asked at the place after the last record.
  abbrev pub KeepHolds : ℕ → KeepRule → Type 0
  KeepHolds p keeps.Node = p < length rs → (g.node (node_at rs p) ≡ true) × (letter_at rs p ≡ 0)
  KeepHolds p keeps.Next =
      p < length rs → (l w : ℕ) → g.edge (node_at rs p) l w ≡ true
      → (k : ℕ) × (k < length rs) × (node_at rs k ≡ w) × (measure_at rs k ≤ measure_at rs p)
      × (g.marked (node_at rs p) ≡ true → measure_at rs k < measure_at rs p)
  KeepHolds p keeps.Starts = p ≡ length rs → (v : ℕ) → g.start v ≡ true → (k : ℕ) × (k < length rs) × (node_at rs k ≡ v)

  -- The same for break slips, whose records from place `stem` on repeat for ever. That a record of the loop has a marked node
  -- is asked at the place after the last record.
  abbrev pub BreakHolds : ℕ → ℕ → BreakRule → Type 0
  BreakHolds stem p breaks.Node =
      p < length rs → (g.node (node_at rs p) ≡ true) × (letter_at rs p < g.letters) × (measure_at rs p ≡ 0)
  BreakHolds stem p breaks.Start = p ≡ 0 → g.start (node_at rs p) ≡ true
  BreakHolds stem p breaks.Next =
      p < length rs → g.edge (node_at rs p) (letter_at rs p) (node_at rs (after (length rs) stem p)) ≡ true
  BreakHolds stem p breaks.Mark =
      p ≡ length rs → (k : ℕ) × (stem ≤ k) × (k < length rs) × (g.marked (node_at rs k) ≡ true)

-- what a rule asks at place p of a slip of this kind: nothing, if it is a rule of the other kind
abbrev pub HoldsFor : Graph → Kind → ℕ → List Record → ℕ → Rule → Type 0
HoldsFor g Keep stem rs p (of.Keep r) = KeepHolds g rs p r
HoldsFor g Keep stem rs p (of.Break r) = Unit {0}
HoldsFor g Break stem rs p (of.Keep r) = Unit {0}
HoldsFor g Break stem rs p (of.Break r) = BreakHolds g rs stem p r

abbrev pub Holds : Graph → Certificate → ℕ → Rule → Type 0
Holds g c = HoldsFor g c.kind c.stem c.records

-- the slip meets the rules of its kind
abbrev pub Meets : Graph → Certificate → Type 0
Meets g c = (p : ℕ) (r : Rule) → Holds g c p r

-- The first breach: the rules of lower numbers hold there, and all rules hold at the places before.
pub record FirstBreach (g : Graph) (c : Certificate) (b : Breach) : Type 0 where
  pub of_kind : rule_kind b.rule ≡ c.kind
  pub broken : Holds g c b.place b.rule → ⊥
  pub lower : (r : Rule) → rule_number r < rule_number b.rule → Holds g c b.place r
  pub before : (p : ℕ) (r : Rule) → p < b.place → Holds g c p r

-- the slip meets its rules, or this is its first breach
abbrev pub BreachTold : Graph → Certificate → Option Breach → Type 0
BreachTold g c r = MatchOption r (Meets g c) (FirstBreach g c)
