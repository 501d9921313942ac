-- Small charts, the verdicts on them, and slips over them, which were worked out apart from the definitions.
use Rattle.std.specs.Prelude.{ℕ, List, [], ◌∷◌, map}
use Rattle.std.specs.List.{All}
use Rattle.bench.specs.Slips.{Fits}
use Rattle.bench.specs.Verdicts.{Decides}
use Rattle.chart.specs.Automata.{Automaton}
use Rattle.chart.specs.Kinds.{table}
use Rattle.graph.specs.Walks.{More}
use Rattle.rank.specs.Containment.{Charts}
use Rattle.rank.specs.Ranked.{ranked_graph}
use Rattle.slip.specs.declared.kinds.Breach.{Breach}
use Rattle.slip.specs.declared.kinds.BreakRule.TheVariants as breaks
use Rattle.slip.specs.declared.kinds.KeepRule.TheVariants as keeps
use Rattle.slip.specs.declared.kinds.Kind.{Kind}
use Rattle.slip.specs.declared.kinds.Kind.TheVariants.{Keep, Break}
use Rattle.slip.specs.declared.kinds.Rule.TheVariants as of
use Rattle.slip.specs.Certificates.{Certificate}
use Rattle.slip.specs.Rules.{FirstBreach, Meets}

-- the numbers, sets and rows of a table chart
pub record TableChart : Type 0 where
  pub states : ℕ
  pub letters : ℕ
  pub starts : ℕ
  pub marks : ℕ
  pub rows : List ℕ

abbrev pub means : TableChart → Automaton
means t = table t.states t.letters t.starts t.marks t.rows

-- one state, which steps to itself
abbrev pub marked_loop : TableChart
marked_loop = record { states = 1; letters = 1; starts = 0b1; marks = 0b1; rows = 0b1 ∷ [] }

abbrev pub unmarked_loop : TableChart
unmarked_loop = record { states = 1; letters = 1; starts = 0b1; marks = 0b0; rows = 0b1 ∷ [] }

abbrev pub no_start : TableChart
no_start = record { states = 1; letters = 1; starts = 0b0; marks = 0b0; rows = 0b1 ∷ [] }

-- one state, and no steps
abbrev pub still : TableChart
still = record { states = 1; letters = 1; starts = 0b1; marks = 0b0; rows = 0b0 ∷ [] }

-- what is told of a duty and a rule
pub data Told : Type 0 where
  -- in a room of 6, the verdict, and how many nodes can be reached
  verdict : Kind → ℕ → Told
  -- more nodes can be reached than this room has
  full : ℕ → Told
  -- in a room of 6, the slip passes inspection
  passes : Certificate → Told
  -- in a room of 6, the slip has this breach, which is its first
  refused : Certificate → Breach → Told

pub record Example : Type 0 where
  pub duty : TableChart
  pub rule : TableChart
  pub told : Told

abbrev pub example : TableChart → TableChart → Told → Example
example duty rule told = record { duty = duty; rule = rule; told = told }

-- a slip of records with these nodes, whose letters and measures are 0
abbrev pub slip : Kind → ℕ → List ℕ → Certificate
slip kind stem nodes =
    record { kind = kind; stem = stem; records = map (λ v. record { node = v; letter = 0; measure = 0 }) nodes }

abbrev pub examples : List Example
examples =
    example marked_loop unmarked_loop (verdict Break 6)
    ∷ example marked_loop marked_loop (verdict Keep 3)
    ∷ example unmarked_loop unmarked_loop (verdict Keep 4)
    ∷ example marked_loop still (verdict Break 3)
    ∷ example marked_loop no_start (verdict Break 2)
    ∷ example still unmarked_loop (verdict Keep 1)
    ∷ example no_start unmarked_loop (verdict Keep 0)
    ∷ example marked_loop unmarked_loop (full 5)
    ∷ example marked_loop unmarked_loop (passes (slip Break 1 (12288 ∷ 8224 ∷ 8192 ∷ [])))
    ∷ example marked_loop unmarked_loop
    (refused (slip Break 2 (12288 ∷ 8224 ∷ 8192 ∷ [])) (record { rule = of.Break breaks.Next; place = 2 }))
    ∷ example marked_loop marked_loop (passes (slip Keep 0 (12288 ∷ 12384 ∷ 4192 ∷ [])))
    ∷ example marked_loop marked_loop
    (refused (slip Keep 0 (12288 ∷ 12384 ∷ [])) (record { rule = of.Keep keeps.Next; place = 0 }))
    ∷ example marked_loop unmarked_loop
    (refused (slip Keep 0 (12288 ∷ 12384 ∷ 8224 ∷ 4192 ∷ 8192 ∷ 4160 ∷ [])) (record { rule = of.Keep keeps.Next; place = 2 }))
    ∷ []

abbrev pub HoldsFor : Automaton → Automaton → Told → Type 0
HoldsFor a b (verdict kind nodes) = Decides a b 6 (record { kind = kind; nodes = nodes })
HoldsFor a b (full room) = More (ranked_graph a b) room
HoldsFor a b (passes c) = Fits 6 c × Meets (ranked_graph a b) c
HoldsFor a b (refused c breach) = Fits 6 c × FirstBreach (ranked_graph a b) c breach

pub record Holds (e : Example) : Type 0 where
  pub charts : Charts (means e.duty) (means e.rule)
  pub told : HoldsFor (means e.duty) (means e.rule) e.told

abbrev pub ExamplesHold : Type 0
ExamplesHold = All Holds examples
