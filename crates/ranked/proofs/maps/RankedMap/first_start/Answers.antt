use Rattle.numbers.proofs.Finding.{least_same}
use Rattle.rank.specs.Ranked.{ranked_graph}
use Rattle.ranked.specs.Bounds.{charts_of}
use Rattle.ranked.specs.Choices.{chosen}
use Rattle.ranked.specs.Maps.{duty_of, rule_of}
use Rattle.ranked.proofs.Matching.{starts_chosen}
use Rattle.ranked.proofs.maps.RankedMap.first_start.Goals as goal

pub returns : goal.returns
returns c =
    let m = c.args.self.now in
    least_same (chosen c.starts.result) ((ranked_graph (duty_of m) (rule_of m)).start) c.args.from c.least.result
    (starts_chosen (duty_of m) (rule_of m) (charts_of m) c.starts.result c.starts.ensures) c.least.ensures
