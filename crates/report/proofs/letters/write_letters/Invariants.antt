use Rattle.std.proofs.Common.{map, take}
use Rattle.std.specs.Fmt.{HasWritten, IsPlainFormatter}
use Rattle.report.specs.Spelled.{letter_sign}
use Rattle.report.proofs.letters.write_letters.Given as goal

-- the letters of the records so far are written
abbrev pub invariant-loop-record : goal.invariant-loop-record
invariant-loop-record g l =
    IsPlainFormatter l.initial.f
    → HasWritten g.W.Write.write_str_gives l.initial.f (map letter_sign (take l.record-index l.records)) l.f
