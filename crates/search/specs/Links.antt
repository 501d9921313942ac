-- Two places of the table that the measure of a record holds while the record is on the stack: its low link in the lower half, and
-- its parent's place in the upper.
use Rattle.std.specs.Prelude.{ℕ, ◌/◌, ◌%◌, List}
use Rattle.records.specs.declared.record.Record.{Record}
use Rattle.records.specs.Tables.{measure_at}

abbrev pub low_at : List Record → ℕ → ℕ
low_at work i = measure_at work i % 65536

abbrev pub up_at : List Record → ℕ → ℕ
up_at work i = measure_at work i / 65536
