-- The levels of the subset construction: the sets of states that an automaton can be in along a word.
use Rattle.std.specs.Prelude.{ℕ, zero, suc, Bool}
use Rattle.chart.specs.Automata.{Automaton}
use Rattle.numbers.specs.Below.{count_below}
use Rattle.rank.specs.Rules.{follows}

-- the states that a run over the word can be in at position k
abbrev pub level : Automaton → (ℕ → ℕ) → ℕ → ℕ → Bool
level b word zero q = b.start q
level b word (suc k) q = follows b (level b word k) (word k) q

-- how many states a set has
abbrev pub size : Automaton → (ℕ → Bool) → ℕ
size b set = count_below b.states set
