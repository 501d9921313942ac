-- Choices for the parts of nodes.
use Rattle.std.specs.Prelude.{◌≡◌, ℕ, ◌<◌, Bool, ◌&&◌, Option, slice_index}
use Rattle.chart.specs.Automata.{Automaton}
use Rattle.numbers.specs.Bits.{bit}
use Rattle.rank.specs.Layout.{rank_held}
use Rattle.rank.specs.Rules.{may_have}
use Rattle.ranked.specs.declared.choices.Choices.{Choices}

-- For a rule b: each state may have the ranks that pass, as far as a node may have them; of the states of even rank those
-- that pass are owed; the turn is this one, and the duty may be in the states that pass.
pub record Offers (b : Automaton) (rank : ℕ → Option ℕ → Bool) (owed : ℕ → Bool) (turn : Bool) (duty : ℕ → Bool) (c : Choices) : Type 0 where
  pub ranks : (q d : ℕ) → q < 6 → d < 16 → bit (slice_index c.digits q) d ≡ (may_have b q (rank_held d) && rank q (rank_held d))
  pub owing : (q : ℕ) → q < b.states → bit c.owing q ≡ owed q
  pub same_turn : c.turn ≡ turn
  pub states : (q : ℕ) → bit c.duty q ≡ duty q
