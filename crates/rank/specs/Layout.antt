-- How a node is told by one number: the duty's state in bits 0 to 4, the turn in bit 5, the owed set in bits 6 to 11, and
-- from bit 12 on four bits for each state of the rule, which hold its rank and one more, or 0 for none.
use Rattle.std.specs.Prelude.{ℕ, zero, suc, ◌+◌, ◌*◌, ◌/◌, ◌%◌, ◌^◌, Bool, cond, ◌&&◌, Some, None, Option, nat_lt}
use Rattle.numbers.specs.Bits.{bit}
use Rattle.rank.specs.Nodes.{Node}

-- so many bits of v, from bit `from` on
abbrev pub bits : ℕ → ℕ → ℕ → ℕ
bits v from count = v / 2 ^ from % 2 ^ count

-- the rank that four bits hold
abbrev pub rank_held : ℕ → Option ℕ
rank_held zero = None
rank_held (suc r) = Some r

-- the parts that v tells
abbrev pub parts : ℕ → Node
parts v =
    record {
      duty = bits v 0 5;
      turn = bit v 5;
      owed = λ q. nat_lt q 6 && bit v (6 + q);
      rank = λ q. rank_held (bits v (12 + 4 * q) 4);
    }

-- the other way: what the bits of a rank hold, and a bit that is set or not
abbrev pub held : Option ℕ → ℕ
held None = 0
held (Some r) = suc r

abbrev pub flag : Bool → ℕ
flag set = cond set 1 0

-- the numbers f 0 to f (n - 1) in fields of so many bits, the first the lowest
abbrev pub fields : ℕ → (ℕ → ℕ) → ℕ → ℕ
fields width f zero = 0
fields width f (suc n) = fields width f n + f n * 2 ^ (width * n)

-- the number with these parts, for a rule of n states: all its other bits are 0
abbrev pub number : ℕ → Node → ℕ
number n x =
    x.duty + flag x.turn * 2 ^ 5 + fields 1 (λ q. flag (x.owed q)) n * 2 ^ 6 + fields 4 (λ q. held (x.rank q)) n * 2 ^ 12
