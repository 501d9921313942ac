-- The number of a state's records and its loop place, where an empty bench has a keep slip of no records.
use Rattle.std.specs.Prelude.{ℕ}
use Rattle.bench.specs.declared.states.State.{State}
use Rattle.bench.specs.declared.states.State.TheVariants.{Empty, Drafted, Passed}
use Rattle.slip.specs.Shapes.{stems}

abbrev pub count_of : State → ℕ
count_of Empty = 0
count_of (Drafted f) = f.count
count_of (Passed f) = f.count

abbrev pub stem_of : State → ℕ
stem_of Empty = 0
stem_of (Drafted f) = f.stem
stem_of (Passed f) = f.stem

-- the loop place is below this number
abbrev pub stems_of : State → ℕ
stems_of Empty = 1
stems_of (Drafted f) = stems f.kind f.count
stems_of (Passed f) = stems f.kind f.count
