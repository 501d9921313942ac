-- The number of a node of the ranked graph: the duty's state in bits 0 to 4, the turn in bit 5, the owed set from bit 6 on, and from
-- bit 12 on four bits for each state of the rule, which hold its rank and one more, or 0 for none.
use Rattle.std.specs.Prelude.{ℕ, ◌+◌, ◌*◌, cond, List, [], ◌∷◌}
use Rattle.samples.specs.declared.nodes.Node.{Node}

-- the first the lowest
abbrev pub digits : List ℕ → ℕ
digits [] = 0
digits (r ∷ rs) = r + 16 * digits rs

abbrev pub number : Node → ℕ
number x = x.duty + 32 * cond x.turn 1 0 + 64 * x.owed + 4096 * digits x.ranks
