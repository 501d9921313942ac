-- The numbers that are told by a choice for each of their parts.
use Rattle.std.specs.Prelude.{ℕ, ◌+◌, ◌-◌, ◌*◌, ◌/◌, ◌%◌, ◌^◌, Bool, ◌&&◌, ◌==◌, nat_le}
use Rattle.numbers.specs.Bits.{bit}
use Rattle.rank.specs.Layout.{fields, flag}
use Rattle.ranked.specs.declared.choices.Choices.{Choices}
use Rattle.ranked.specs.Digits.{digit, drawn}

module _ (c : Choices) where
  -- the owed set: an odd digit is an even rank
  abbrev pub owed : ℕ → ℕ
  owed ranks = fields 1 (λ q. flag (digit ranks q % 2 == 1 && bit c.owing q)) 6

  -- the owed set and the turn
  abbrev pub upper : ℕ → ℕ
  upper ranks = owed ranks * 2 ^ 6 + flag c.turn * 2 ^ 5

  -- r are bits that may stand below the ranks: these, and a state of the duty
  abbrev pub rest : ℕ → ℕ → Bool
  rest ranks r = nat_le (upper ranks) r && bit c.duty (r - upper ranks)

  abbrev pub chosen : ℕ → Bool
  chosen v = drawn c.digits 6 (v / 2 ^ 12) && rest (v / 2 ^ 12) (v % 2 ^ 12)
