-- Nodes and their numbers correspond.
use Rattle.std.specs.Prelude.{◌≡◌, ℕ, ◌+◌, ◌*◌, ◌^◌, ◌<◌, ◌≤◌, true, Some}
use Rattle.chart.specs.Automata.{Automaton}
use Rattle.graph.specs.Graphs.{Bounded}
use Rattle.rank.specs.Containment.{Charts}
use Rattle.rank.specs.Layout.{parts, number}
use Rattle.rank.specs.Nodes.{Node}
use Rattle.rank.specs.Ranked.{is_number, ranked_graph}
use Rattle.rank.specs.Rules.{top_rank, is_even, has_even}

-- What it is to be a node: the duty's state is one; only states of the rule have a rank, up to the greatest, and an even
-- one where they are marked; and only states of even rank are owed.
pub record IsNode (a b : Automaton) (x : Node) : Type 0 where
  pub duty : x.duty < a.states
  pub ranks :
      (q r : ℕ) → x.rank q ≡ Some r
      → (q < b.states) × (r ≤ top_rank b) × (b.mark q ≡ true → is_even r ≡ true)
  pub owed : (q : ℕ) → x.owed q ≡ true → has_even (x.rank q) ≡ true

-- The numbers that are nodes are those of nodes: each tells exactly the node whose number it is.
pub record Numbers (a b : Automaton) : Type 0 where
  pub small : (v : ℕ) → is_number a b v ≡ true → v < 2 ^ (12 + 4 * b.states)
  pub of_number : (v : ℕ) → is_number a b v ≡ true → IsNode a b (parts v) × (number b.states (parts v) ≡ v)
  pub of_node :
      (x : Node) → IsNode a b x → (is_number a b (number b.states x) ≡ true) × (parts (number b.states x) ≡ x)
  pub bounded : Bounded (ranked_graph a b)

abbrev pub NumbersCorrespond : Type 0
NumbersCorrespond = (a b : Automaton) → Charts a b → Numbers a b
