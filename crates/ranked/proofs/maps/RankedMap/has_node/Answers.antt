use Rattle.std.proofs.Common.{◌<◌, ◌∙◌, subst}
use Rattle.ranked.specs.Bounds.{charts_of}
use Rattle.ranked.specs.Maps.{duty_of, rule_of}
use Rattle.ranked.proofs.Matching.{node_chosen}
use Rattle.ranked.proofs.maps.RankedMap.has_node.Goals as goal

pub returns-then-node-self : goal.returns-then-node-self
returns-then-node-self c =
    let m = c.args.self.now in
    c.has.ensures
    ∙ node_chosen (duty_of m) (rule_of m) (charts_of m) c.around.result c.args.v
    (subst (λ x. x < m.duty.states) c.read-node.ensures.duty c.if-node-self.true) (c.around.ensures c.args.v c.read-node.ensures)
