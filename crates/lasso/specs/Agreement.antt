-- What is true of every lasso and every chart: how places repeat, and that to take a word is to accept it as an endless
-- word by Büchi's condition.
use Rattle.std.specs.Prelude.{◌≡◌, ℕ, suc, ◌+◌, ◌-◌, ◌*◌, ◌<◌, ◌≤◌, List, length}
use Rattle.chart.specs.Automata.{Automaton, Limits}
use Rattle.lasso.specs.Positions.{place, after}
use Rattle.lasso.specs.Words.{letter, Accepts, Returns, Takes}

-- the places of a lasso of n elements with a stem of j
pub record Repeats (n j : ℕ) : Type 0 where
  pub begins : place n j 0 ≡ 0
  pub stays : (k : ℕ) → place n j k < n
  pub follows : (k : ℕ) → place n j (suc k) ≡ after n j (place n j k)
  -- whole laps further in the loop is the same place
  pub laps : (i c : ℕ) → j ≤ i → place n j (i + c * (n - j)) ≡ place n j i
  -- and no other position has it
  pub same : (i l : ℕ) → i < l → place n j i ≡ place n j l → (j ≤ i) × ((c : ℕ) × (l - i ≡ c * (n - j)))

abbrev pub PlacesRepeat : Type 0
PlacesRepeat = (n j : ℕ) → j < n → Repeats n j

abbrev pub RunsReturn : Type 0
RunsReturn =
    (m : Automaton) (word : ℕ → ℕ) → Limits m → (a : Accepts m word) (j p : ℕ) → 1 ≤ p → Returns m a.run j p

pub record Agree (m : Automaton) (word : List ℕ) (stem : ℕ) : Type 0 where
  pub accepted : Takes m word stem → Accepts m (letter word stem)
  pub taken : Accepts m (letter word stem) → Takes m word stem

abbrev pub TakenIsAccepted : Type 0
TakenIsAccepted =
    (m : Automaton) (word : List ℕ) (stem : ℕ) → Limits m → stem < length word → Agree m word stem
