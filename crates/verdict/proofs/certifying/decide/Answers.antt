use Rattle.std.proofs.Common.{[]}
use Rattle.verdict.proofs.Calling.{decided, some_table}
use Rattle.verdict.proofs.certifying.decide.Goals as goal

pub returns : goal.returns
returns g c =
    let a = g.D.Chart.meaning c.args.duty in
    let b = g.R.Chart.meaning c.args.rule in
    let n = c.args.room in
    let new = c.in_ok-bench.ensures.answer in
    let mine = some_table n in
    decided a b n new.together new.allowed c.args.table.now c.certify.new.table c.args.work.now c.certify.new.work
    c.certify.result (c.certify.ensures a b n [] mine.0 (c.in_ok-bench.ensures.law mine.0 mine.1))
