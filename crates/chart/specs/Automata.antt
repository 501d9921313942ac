-- What a chart means: a nondeterministic Büchi automaton with letters on its steps.
use Rattle.std.specs.Prelude.{◌≡◌, ℕ, ◌<◌, ◌≤◌, Bool, true}

-- States and letters are numbered from 0; a run has to pass a marked state without end.
pub record Automaton : Type 0 where
  pub states : ℕ
  pub letters : ℕ
  pub start : ℕ → Bool
  pub mark : ℕ → Bool
  -- from a state, by a letter, to a state
  pub step : ℕ → ℕ → ℕ → Bool

-- n states and k letters are a size that charts can have
pub record Allowed (n k : ℕ) : Type 0 where
  pub some_states : 1 ≤ n
  pub few_states : n ≤ 32
  pub some_letters : 1 ≤ k
  pub few_letters : k ≤ 16

-- The limits of charts: such a size, and outside it the answer is no.
pub record Limits (m : Automaton) : Type 0 where
  pub size : Allowed m.states m.letters
  pub starts : (q : ℕ) → m.start q ≡ true → q < m.states
  pub marks : (q : ℕ) → m.mark q ≡ true → q < m.states
  pub steps : (p i q : ℕ) → m.step p i q ≡ true → (p < m.states) × (i < m.letters) × (q < m.states)
