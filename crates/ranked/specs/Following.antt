-- What may follow a node, by the digits of its ranks.
use Rattle.std.specs.Prelude.{◌≡◌, ℕ, zero, suc, ◌%◌, ◌<◌, ◌≤◌, Bool, true, not, ◌&&◌, ◌||◌, ◌==◌, nat_le}
use Rattle.chart.specs.Automata.{Automaton}
use Rattle.ranked.specs.Digits.{digit}

-- least is the least digit of the first n states that have a rank and step to q by letter l, or 0 where there is none
pub record LowestBelow (n : ℕ) (b : Automaton) (ranks l q least : ℕ) : Type 0 where
  pub below : (p : ℕ) → p < n → 0 < digit ranks p → b.step p l q ≡ true → (0 < least) × (least ≤ digit ranks p)
  pub there : 0 < least → (p : ℕ) × (p < n) × (digit ranks p ≡ least) × (b.step p l q ≡ true)

abbrev pub Lowest : Automaton → ℕ → ℕ → ℕ → ℕ → Type 0
Lowest = LowestBelow 6

-- d is one of the digits from 1 to most, and odd if `odd` is asked; where most is 0, d is 0
abbrev pub is_upto : ℕ → Bool → ℕ → Bool
is_upto zero odd d = d == 0
is_upto (suc most) odd d = nat_le 1 d && (nat_le d (suc most) && (not odd || d % 2 == 1))
