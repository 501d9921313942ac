-- Ranks as one number: four bits for each state hold its rank and one more, or 0 for none.
use Rattle.std.specs.Prelude.{ℕ, ◌*◌, ◌^◌, Bool, ◌&&◌, List, nat_lt, slice_index}
use Rattle.numbers.specs.Bits.{bit}
use Rattle.numbers.specs.Below.{all_below}
use Rattle.rank.specs.Layout.{bits}

-- what the four bits of state q hold
abbrev pub digit : ℕ → ℕ → ℕ
digit ranks q = bits ranks (4 * q) 4

-- those of the first k states are in the sets, and all other bits are 0
abbrev pub drawn : List ℕ → ℕ → ℕ → Bool
drawn sets k ranks = nat_lt ranks (2 ^ (4 * k)) && all_below k (λ q. bit (slice_index sets q) (digit ranks q))
