use Rattle.std.proofs.Common.{rules, subst}
use Rattle.chart.specs.Meanings.{table_of}
use Rattle.report.specs.ReadCharts.{chart_of}
use Rattle.report.proofs.Telling.{charts_told}
use Rattle.verdict.specs.Certified.{DecideTells}
use Rattle.report.proofs.deciding.certify_charts.Goals as goal

pub returns : goal.returns
returns c =
    let duty = chart_of c.args.duty.now in
    let rule = chart_of c.args.rule.now in
    let was = c.args.table.now in
    let table = c.decide.new.table in
    let work = c.args.work.now in
    let told =
    subst (λ a. DecideTells a rule 512 was table work c.decide.new.work c.decide.result) c.table.ensures
    (subst (λ b. DecideTells (table_of c.table.result) b 512 was table work c.decide.new.work c.decide.result) c.table-2.ensures c.decide.ensures) in
    charts_told duty rule was table work c.decide.new.work c.decide.result told (search rules) (search rules)
