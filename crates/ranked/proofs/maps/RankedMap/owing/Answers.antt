use Rattle.std.proofs.Common.{◌∙◌}
use Rattle.ranked.specs.Bounds.{charts_of}
use Rattle.ranked.specs.Maps.{duty_of, rule_of}
use Rattle.ranked.proofs.Owing.{owing_all, owing_some}
use Rattle.ranked.proofs.maps.RankedMap.owing.Goals as goal

pub returns-then-node-eq0 : goal.returns-then-node-eq0
returns-then-node-eq0 c =
    let m = c.args.self.now in
    λ v reads e q h. owing_all (duty_of m) (rule_of m) (charts_of m) v e c.args.node reads c.if-node-eq0.true c.args.letter q h

pub returns-else-node-eq0 : goal.returns-else-node-eq0
returns-else-node-eq0 c =
    let m = c.args.self.now in
    λ v reads e q h. c.followers.ensures q
    ∙ owing_some (duty_of m) (rule_of m) (charts_of m) v e c.args.node reads c.if-node-eq0.false c.args.letter q
