-- What it is for a chart to take a word that repeats, and Büchi's condition on endless words.
use Rattle.std.specs.Prelude.{◌≡◌, ℕ, suc, ◌-◌, ◌<◌, ◌≤◌, true, List, length, slice_index}
use Rattle.chart.specs.Automata.{Automaton}
use Rattle.lasso.specs.Positions.{IsLasso, element}
use Rattle.numbers.specs.Returning.{Return}

-- the letter of a word at position k, where the word's letters from the stem's end on repeat for ever
abbrev pub letter : List ℕ → ℕ → ℕ → ℕ
letter word stem = element word stem 0

-- a word for charts of so many letters
pub record IsWord (letters : ℕ) (word : List ℕ) (stem : ℕ) : Type 0 where
  pub lasso : IsLasso (length word) stem
  pub known : (k : ℕ) → k < length word → slice_index word k < letters

-- A run comes back: at or after position j it is in one state twice, a multiple of p positions apart, and it passes a
-- marked state between.
abbrev pub Returns : Automaton → (ℕ → ℕ) → ℕ → ℕ → Type 0
Returns m run = Return run (λ k. m.mark (run k) ≡ true)

-- The automaton takes the word: a run from a start comes back in the word's loop, whole laps of it later, past a marked state,
-- and it steps by the word's letters as far as that.
pub record Takes (m : Automaton) (word : List ℕ) (stem : ℕ) : Type 0 where
  pub run : ℕ → ℕ
  pub starts : m.start (run 0) ≡ true
  pub back : Returns m run stem (length word - stem)
  pub steps : (k : ℕ) → k < back.to → m.step (run k) (letter word stem k) (run (suc k)) ≡ true

-- Büchi's condition on an endless word: an endless run from a start that passes a marked state again and again.
pub record Accepts (m : Automaton) (word : ℕ → ℕ) : Type 0 where
  pub run : ℕ → ℕ
  pub starts : m.start (run 0) ≡ true
  pub steps : (k : ℕ) → m.step (run k) (word k) (run (suc k)) ≡ true
  pub again : (k : ℕ) → (i : ℕ) × (k ≤ i) × (m.mark (run i) ≡ true)
