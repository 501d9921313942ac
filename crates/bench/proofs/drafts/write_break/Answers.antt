use Rattle.std.proofs.Common.{◌∙◌, [], length, Ok, ap, subst}
use Rattle.bench.proofs.BreakSlips.{break_wrote}
use Rattle.paths.specs.Lassos.{LassoAnswer}
use Rattle.bench.proofs.drafts.write_break.Goals as goal

pub returns : goal.returns
returns g c =
    let graph = g.M.Map.graph c.args.map.now [] 0 in
    let was = c.args.table.now in
    let table = c.write_lasso.new.table in
    let written =
    subst (λ r. LassoAnswer graph c.args.node c.args.work.now c.write_lasso.new.work was table r)
    (c.unwrap-lasso.ensures ∙ ap Ok c.unwrap.ensures) c.write_lasso.ensures in
    rw c.of_lasso.ensures
    (break_wrote graph c.args.node (length c.args.work.now) (g.M.Map.bounds c.args.map.now [] 0) was table c.unwrap.result written.2)
