use Rattle.bench.proofs.Lasting.{judge_law, judge_next}
use Rattle.bench.proofs.benches.Bench.judge.Goals as goal

pub returns-clause-law : goal.returns-clause-law
returns-clause-law g c =
    judge_law g.D.Chart.meaning g.R.Chart.meaning c.args.self.now c.args.table.now c.args.work.now c.draft.new.self c.draft.new.table
    c.draft.new.work c.draft.result c.draft.ensures.answer c.draft.ensures.bench

pub returns-clause-passes : goal.returns-clause-passes
returns-clause-passes g c =
    judge_next g.D.Chart.meaning g.R.Chart.meaning c.args.self.now c.args.table.now c.args.work.now c.draft.new.self c.draft.new.table
    c.draft.new.work c.draft.result c.draft.ensures.answer c.draft.ensures.bench
