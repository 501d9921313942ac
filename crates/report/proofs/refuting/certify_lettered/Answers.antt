use Rattle.report.proofs.Telling.{if_lettered}
use Rattle.report.proofs.refuting.certify_lettered.Goals as goal

pub returns-clause-letters : goal.returns-clause-letters
returns-clause-letters c =
    if_lettered c.args.duty.now c.args.rule.now c.args.table.now c.certify_both.new.table _ c.certify_both.result c.certify_both.ensures
