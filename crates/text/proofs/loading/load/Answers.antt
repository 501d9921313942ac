use Rattle.std.proofs.Common.{◌≡◌, ℕ, List, refl, subst, arith, rules}
use Rattle.text.specs.Documents.{Document, some_tells}
use Rattle.text.specs.Loads.{Filled}
use Rattle.text.specs.Reading.{verdict, fine}
use Rattle.text.specs.Rows.{Added}
use Rattle.text.specs.declared.loading.Loaded.{Loaded}
use Rattle.std.proofs.lemmas.Result.{err_from_is_err_and}
use Rattle.text.proofs.Loadings.{refused, too_short, loaded}
use Rattle.text.proofs.loading.load.Goals as goal

pub returns-in_err-chart : goal.returns-in_err-chart
returns-in_err-chart c =
    let p = err_from_is_err_and c.from_residual.result c.from_residual.ensures.1 in
    rw (p.1, p.2) (refused c.args.text.now c.in_err-chart.field-0.0 c.in_err-chart.ensures, refl)

pub returns-then-rows-row_count : goal.returns-then-rows-row_count
returns-then-rows-row_count c =
    (too_short c.args.text.now c.args.rows.now c.in_ok-chart.chart c.in_ok-chart.ensures (omega arith), refl)

pub returns : goal.returns
returns c =
    let l = c.in_ok-chart.chart in
    subst (λ (r : List ℕ). Filled c.args.text.now c.args.rows.now r l) (search rules)
    (loaded c.args.text.now c.args.rows.now c.clear.new.self.cells.now c.fill.new.rows.cells.now l
    c.in_ok-chart.ensures (omega arith) c.clear.ensures.empty c.clear.ensures.past (subst (λ (m : Loaded). (d : Document) → verdict c.args.text.now ≡ fine d → Added m c.clear.new.self.cells.now c.fill.new.rows.cells.now (some_tells m.letters d.steps)) c.clear.ensures.chart c.fill.ensures.added))
