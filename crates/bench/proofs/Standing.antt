-- A slip that is written over a table stands in its first records.
use Rattle.std.proofs.Common.{◌≡◌, ◌≤◌, List, drop, length, ap, arith}
use Rattle.std.proofs.Math.Seq.{take-append_seam}
use Rattle.std.proofs.lemmas.List.{length-append, length-drop}
use Rattle.bench.specs.Slips.{form_of, over, slip_at}
use Rattle.bench.specs.Tellings.{First}
use Rattle.records.specs.declared.record.Record.{Record}
use Rattle.slip.specs.Certificates.{Certificate}

pub first_over : (c : Certificate) (table : List Record) → First c (over c.records table)
first_over c table = take-append_seam c.records (drop (length c.records) table)

-- the slip of a form, where the first records are the slip's
pub slip_first : (c : Certificate) (table : List Record) → First c table → slip_at (form_of c) table ≡ c
slip_first c table first = ap (λ rs. record { kind = c.kind; stem = c.stem; records = rs }) first

pub slip_over : (c : Certificate) (table : List Record) → slip_at (form_of c) (over c.records table) ≡ c
slip_over c table = slip_first c (over c.records table) (first_over c table)

pub length_over : (records table : List Record) → length records ≤ length table → length (over records table) ≡ length table
length_over records table h =
    let e = length-append records (drop (length records) table) in
    let d = length-drop (length records) table in omega (arith, e, d, h)
