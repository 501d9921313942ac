use Rattle.report.proofs.Telling.{told}
use Rattle.report.proofs.refuting.tell_both.Goals as goal

pub returns : goal.returns
returns c =
    told c.args.duty.now c.args.rule.now _ c.certify_lettered.new.table c.in_ok-certified.certified c.tell.result
    c.in_ok-certified.ensures.answer c.tell.ensures
