use Rattle.std.proofs.Common.{◌∙◌}
use Rattle.ranked.specs.Bounds.{charts_of}
use Rattle.ranked.specs.Maps.{duty_of, rule_of}
use Rattle.ranked.proofs.Matching.{starts_chosen}
use Rattle.ranked.proofs.maps.RankedMap.has_start.Goals as goal

pub returns : goal.returns
returns c =
    let m = c.args.self.now in
    c.has.ensures ∙ starts_chosen (duty_of m) (rule_of m) (charts_of m) c.starts.result c.starts.ensures c.args.v
