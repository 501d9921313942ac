use Rattle.bench.specs.Benches.{duty_on, rule_on}
use Rattle.bench.proofs.Deciding.{search_tells}
use Rattle.bench.proofs.Lasting.{charts_on}
use Rattle.ranked.specs.Maps.{duty_of, rule_of}
use Rattle.bench.proofs.benches.Bench.search.Goals as goal

pub returns : goal.returns
returns g c =
    let s = c.args.self.now in
    let m = c.map-map.result in
    search_tells (duty_on g.D.Chart.meaning s) (rule_on g.R.Chart.meaning s) (duty_of m) (rule_of m) c.map-map.ensures.duty c.map-map.ensures.rule
    (charts_on g.D.Chart.meaning g.R.Chart.meaning s) s.room _ c.requires.work_sized c.survey.new.work c.survey.ensures.same_length c.in_ok-found.found c.in_ok-found.ensures.found c.args.table.now
    c.write_slip-form.new.table c.tell.result c.tell.ensures c.write_slip-form.result c.write_slip-form.ensures
