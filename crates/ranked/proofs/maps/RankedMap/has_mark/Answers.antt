use Rattle.std.proofs.Common.{◌&&◌, eqb, ap, sym, ◌∙◌}
use Rattle.ranked.specs.Bounds.{charts_of}
use Rattle.ranked.specs.Maps.{duty_of, rule_of}
use Rattle.ranked.proofs.Owing.{marked_bits}
use Rattle.ranked.proofs.maps.RankedMap.has_mark.Goals as goal

pub returns-then-node : goal.returns-then-node
returns-then-node c =
    let m = c.args.self.now in
    let node = c.read-node.result in
    sym (ap (λ t. t && eqb node.owed 0) c.if-node.true)
    ∙ marked_bits (duty_of m) (rule_of m) (charts_of m) c.args.v (sym c.if-not-has_node.ensures) node c.read-node.ensures
