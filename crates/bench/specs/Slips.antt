-- The slip of a bench: what its form and the table tell.
use Rattle.std.specs.Prelude.{ℕ, ◌*◌, ◌<◌, ◌≤◌, ◌++◌, List, drop, length, take}
use Rattle.bench.specs.declared.states.Form.{Form}
use Rattle.slip.specs.declared.kinds.Kind.{Kind}
use Rattle.slip.specs.declared.kinds.Kind.TheVariants.{Keep, Break}
use Rattle.records.specs.declared.record.Record.{Record}
use Rattle.slip.specs.Certificates.{Certificate}
use Rattle.slip.specs.Shapes.{stems}

-- its records are the first of the table
abbrev pub slip_at : Form → List Record → Certificate
slip_at f table = record { kind = f.kind; stem = f.stem; records = take f.count table }

abbrev pub form_of : Certificate → Form
form_of c = record { kind = c.kind; count = length c.records; stem = c.stem }

-- a table whose first records are these, and whose others are as they were
abbrev pub over : List Record → List Record → List Record
over records table = records ++ drop (length records) table

-- it has no more records than the table, which are twice the room, and its loop place goes with its kind
pub record Fits (room : ℕ) (c : Certificate) : Type 0 where
  pub few : length c.records ≤ 2 * room
  pub placed : c.stem < stems c.kind (length c.records)

-- the same of a form
pub record Fitting (room : ℕ) (f : Form) : Type 0 where
  pub few : f.count ≤ 2 * room
  pub placed : f.stem < stems f.kind f.count
  pub allowed : room ≤ 65536

abbrev pub handed_for : Kind → ℕ → List Record → List Record
handed_for Keep stem records = records
handed_for Break stem records = drop stem records

-- what is handed out of a slip: all of it for keep, and the loop for break
abbrev pub handed : Certificate → List Record
handed c = handed_for c.kind c.stem c.records
