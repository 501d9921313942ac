use Rattle.ranked.specs.Bounds.{charts_of}
use Rattle.ranked.specs.Maps.{duty_of, rule_of}
use Rattle.ranked.proofs.Owing.{turn_after}
use Rattle.ranked.proofs.maps.RankedMap.next_turn.Goals as goal

pub returns-then-node : goal.returns-then-node
returns-then-node c =
    let m = c.args.self.now in
    λ v reads e. turn_after (duty_of m) (rule_of m) (charts_of m) v e c.args.node reads c.if-node.true
