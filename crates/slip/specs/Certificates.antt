-- What a slip holds.
use Rattle.std.specs.Prelude.{ℕ, List}
use Rattle.slip.specs.declared.kinds.Kind.{Kind}
use Rattle.records.specs.declared.record.Record.{Record}
use Rattle.slip.specs.declared.slips.Slip.{Slip}

pub record Certificate : Type 0 where
  pub kind : Kind
  -- the place from which the records repeat for ever; 0 for keep
  pub stem : ℕ
  pub records : List Record

abbrev pub content : Slip → Certificate
content s = record { kind = s.kind; stem = s.stem; records = s.records.now }
