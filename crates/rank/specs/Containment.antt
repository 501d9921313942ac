-- What the ranked graph tells of two charts, by their repeating words.
use Rattle.std.specs.Prelude.{ℕ, ◌<◌, ◌≤◌, ◌⊎◌, ◌↔◌, List, length, slice_index}
use Rattle.chart.specs.Automata.{Automaton, Limits}
use Rattle.graph.specs.Walks.{MarkedCycle}
use Rattle.graph.specs.Witnesses.{MarkedLasso, FallingMeasures}
use Rattle.lasso.specs.Words.{Takes}
use Rattle.rank.specs.Ranked.{ranked_graph}

-- a duty and a rule within the limits
pub record Charts (a b : Automaton) : Type 0 where
  pub duty : Limits a
  pub rule : Limits b
  pub few_states : b.states ≤ 6

-- b takes every repeating word that a takes
abbrev pub Included : Automaton → Automaton → Type 0
Included a b = (word : List ℕ) (stem : ℕ) → stem < length word → Takes a word stem → Takes b word stem

-- a takes the word, and b does not
pub record TakenAlone (a b : Automaton) (word : List ℕ) (stem : ℕ) : Type 0 where
  pub taken : Takes a word stem
  pub rejected : Takes b word stem → ⊥

-- some repeating word of letters that a has is taken by a and not by b
pub record Differs (a b : Automaton) : Type 0 where
  pub word : List ℕ
  pub stem : ℕ
  pub loops : stem < length word
  pub known : (k : ℕ) → k < length word → slice_index word k < a.letters
  pub alone : TakenAlone a b word stem

-- A reachable marked node lies on a cycle of the ranked graph exactly if some repeating word is taken by the duty and not
-- by the rule; and if none does, the rule takes every repeating word that the duty takes.
pub record ToldByCycles (a b : Automaton) : Type 0 where
  pub exactly : MarkedCycle (ranked_graph a b) ↔ Differs a b
  pub included : (MarkedCycle (ranked_graph a b) → ⊥) → Included a b

abbrev pub CyclesDecide : Type 0
CyclesDecide = (a b : Automaton) → Charts a b → ToldByCycles a b

-- The letters of a marked lasso of the ranked graph are a word that the duty takes and the rule does not.
abbrev pub LassosTell : Type 0
LassosTell =
    (a b : Automaton) → Charts a b → (node : ℕ → ℕ) (word : List ℕ) (stem : ℕ)
    → MarkedLasso (ranked_graph a b) node (slice_index word) (length word) stem → TakenAlone a b word stem

-- Falling measures on nodes of the ranked graph leave it no marked cycle, and the rule takes every repeating word that the
-- duty takes.
abbrev pub MeasuresTell : Type 0
MeasuresTell =
    (a b : Automaton) → Charts a b → (node measure : ℕ → ℕ) (count : ℕ)
    → FallingMeasures (ranked_graph a b) node measure count → (MarkedCycle (ranked_graph a b) → ⊥) × Included a b

-- A chart takes a repeating word, or it does not.
abbrev pub TakingIsDecided : Type 0
TakingIsDecided =
    (m : Automaton) → Limits m → (word : List ℕ) (stem : ℕ) → stem < length word
    → Takes m word stem ⊎ (Takes m word stem → ⊥)
