use Rattle.bench.proofs.KeepSlips.{keep_wrote}
use Rattle.bench.proofs.drafts.write_keep.Goals as goal

pub returns : goal.returns
returns c = λ g room bounds found told few.
    keep_wrote g room c.args.count bounds c.args.work.now c.clear_letters.new.records found told few c.clear_letters.ensures c.args.table.now
    c.copy_from_slice.new.self c.copy_from_slice.ensures.after
