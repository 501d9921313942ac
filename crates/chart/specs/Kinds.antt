-- What each kind of chart means.
use Rattle.std.specs.Prelude.{◌≡◌, ℕ, ◌+◌, ◌-◌, ◌*◌, ◌≤◌, ◌&&◌, ◌||◌, List, nat_le, nat_lt, slice_index}
use Rattle.chart.specs.Automata.{Automaton}
use Rattle.numbers.specs.Bits.{bit}

-- The automaton with n states and k letters that agrees with m there, and says no outside.
abbrev pub fitted : ℕ → ℕ → Automaton → Automaton
fitted n k m =
    record {
      states = n;
      letters = k;
      start = λ q. nat_lt q n && m.start q;
      mark = λ q. nat_lt q n && m.mark q;
      step = λ p i q. nat_lt p n && (nat_lt i k && (nat_lt q n && m.step p i q));
    }

-- Sets of starts and marks, and for each state p and letter i the set of the states that p steps to, as row p * stride + i.
abbrev pub rowwise : ℕ → ℕ → ℕ → ℕ → ℕ → List ℕ → Automaton
rowwise n k stride starts marks rows =
    record {
      states = n;
      letters = k;
      start = bit starts;
      mark = bit marks;
      step = λ p i q. nat_lt i k && bit (slice_index rows (p * stride + i)) q;
    }

-- What a table chart means: bits at or beyond the number of states are ignored.
abbrev pub table : ℕ → ℕ → ℕ → ℕ → List ℕ → Automaton
table n k starts marks rows = fitted n k (rowwise n k k starts marks rows)

-- The union: the states of a, then those of b; starts, marks and steps are those of both, and none goes across.
abbrev pub union : Automaton → Automaton → Automaton
union a b =
    record {
      states = a.states + b.states;
      letters = a.letters;
      start = λ q. a.start q || (nat_le a.states q && b.start (q - a.states));
      mark = λ q. a.mark q || (nat_le a.states q && b.mark (q - a.states));
      step =
          λ p i q. a.step p i q
          || (nat_le a.states p && (nat_le a.states q && b.step (p - a.states) i (q - a.states)));
    }

-- a and b can be united: they have the same letters, and not more than 32 states together
pub record Unites (a b : Automaton) : Type 0 where
  pub same_letters : a.letters ≡ b.letters
  pub few_states : a.states + b.states ≤ 32
