-- The parts of a node, read from its number.
use Rattle.std.specs.Prelude.{◌≡◌, ℕ, ◌^◌, ◌<◌}
use Rattle.numbers.specs.Bits.{bit}
use Rattle.rank.specs.Layout.{parts, rank_held}
use Rattle.ranked.specs.Digits.{digit}
use Rattle.ranked.specs.declared.nodes.Parts.{Parts}

pub record Reads (v : ℕ) (p : Parts) : Type 0 where
  pub duty : p.duty ≡ (parts v).duty
  pub turn : p.turn ≡ (parts v).turn
  pub owed : (q : ℕ) → q < 6 → bit p.owed q ≡ (parts v).owed q
  pub rank : (q : ℕ) → rank_held (digit p.ranks q) ≡ (parts v).rank q
  -- no state beyond the sixth is read
  pub small_owed : p.owed < 2 ^ 6
