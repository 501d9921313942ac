-- The ranked graph as an automaton, and the words that it accepts: they tell the duty from the rule.
use Rattle.std.specs.Prelude.{◌≡◌, ℕ, suc, ◌*◌, ◌^◌, ◌<◌, ◌≤◌, Some, List, length}
use Rattle.chart.specs.Automata.{Automaton}
use Rattle.lasso.specs.Words.{letter, Accepts}
use Rattle.rank.specs.Containment.{Charts}
use Rattle.rank.specs.Layout.{parts}
use Rattle.rank.specs.Ranked.{ranked_graph}
use Rattle.rank.specs.Subsets.{level, size}

-- its states are the nodes
abbrev pub ranked : Automaton → Automaton → Automaton
ranked a b =
    record {
      states = 2 ^ 36;
      letters = (ranked_graph a b).letters;
      start = (ranked_graph a b).start;
      mark = (ranked_graph a b).marked;
      step = (ranked_graph a b).edge;
    }

-- an endless word that a accepts and b does not
pub record AcceptedAlone (a b : Automaton) (word : ℕ → ℕ) : Type 0 where
  pub accepted : Accepts a word
  pub rejected : Accepts b word → ⊥

-- It accepts the word by a walk whose ranks after the start are at most twice the size of some level of the rule's subset
-- construction.
pub record AcceptedLow (a b : Automaton) (word : ℕ → ℕ) : Type 0 where
  pub walk : Accepts (ranked a b) word
  -- where that level is
  pub position : ℕ
  pub low :
      (k q r : ℕ) → (parts (walk.run (suc k))).rank q ≡ Some r → r ≤ 2 * size b (level b word position)

-- It accepts only endless words, repeating or not, that a accepts and b does not, and all repeating words of this kind.
pub record Complements (a b : Automaton) : Type 0 where
  pub only : (word : ℕ → ℕ) → Accepts (ranked a b) word → AcceptedAlone a b word
  pub every :
      (word : List ℕ) (stem : ℕ) → stem < length word → AcceptedAlone a b (letter word stem)
      → AcceptedLow a b (letter word stem)

abbrev pub RankedComplements : Type 0
RankedComplements = (a b : Automaton) → Charts a b → Complements a b
