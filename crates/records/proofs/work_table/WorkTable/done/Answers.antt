use Rattle.std.proofs.Common.{length, arith}
use Rattle.records.proofs.Parts.{none_in_part}
use Rattle.records.proofs.work_table.WorkTable.done.Goals as goal

pub returns-in-None : goal.returns-in-None
returns-in-None c =
    let s = c.args.self.now in
    none_in_part s.top (length s.work.now) c.args.node s.work.now s.table (omega arith) c.in-None.ensures
