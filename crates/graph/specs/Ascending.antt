-- Nodes that come in rising order.
use Rattle.std.specs.Prelude.{◌≡◌, ℕ, ◌-◌, ◌^◌, ◌<◌, Bool, true, List, Some, None, Option, ◌⊎◌}
use Rattle.std.specs.Iterator.{Count, at_most}
use Rattle.graph.specs.Graphs.{Graph}
use Rattle.graph.specs.declared.implicit.Rising.{Rising}
use Rattle.graph.specs.Implicit.{graph_of, among}

-- w is below where they go on, and nothing is left of them if that is nowhere
abbrev pub Passed : Option ℕ → ℕ → Type 0
Passed None w = Unit {0}
Passed (Some from) w = w < from

-- as many numbers at most are left
abbrev pub numbers_from : Option ℕ → Count
numbers_from None = at_most 0
numbers_from (Some from) = at_most (2 ^ 64 - from)

-- the next of those that P tells, or the end of them
abbrev pub Next : (ℕ → Bool) → Option ℕ → Option ℕ → Option ℕ → Type 0
Next P from None after = (w : ℕ) → P w ≡ true → Passed from w
Next P from (Some v) after =
    (P v ≡ true) × ((w : ℕ) → P w ≡ true → Passed after w → Passed from w ⊎ (w ≡ v))
    × ((w : ℕ) → Passed from w → Passed after w) × Passed after v

-- it comes behind all that are passed
abbrev pub Behind : Option ℕ → Option ℕ → Type 0
Behind from None = Unit {0}
Behind from (Some v) = Passed from v → ⊥

-- where there is none, they go on where they did, so that none comes afterwards
abbrev pub Stays : Option ℕ → Option ℕ → Option ℕ → Type 0
Stays from None after = after ≡ from
Stays from (Some v) after = Unit {0}

pub record Rises {M : Type 0} (graph : M → List ℕ → ℕ → Graph) (s : Rising M) (r : Option ℕ) (t : Rising M) : Type 0 where
  pub same_graph : t.graph ≡ s.graph
  pub same_nodes : t.nodes ≡ s.nodes
  pub gives : Next (among (graph_of graph s.graph) s.nodes) s.from r t.from
  pub behind : Behind s.from r
  pub stays : Stays s.from r t.from
