use Rattle.std.proofs.Common.{sym}
use Rattle.numbers.proofs.Finding.{least_same}
use Rattle.rank.specs.Ranked.{ranked_graph}
use Rattle.ranked.specs.Bounds.{charts_of}
use Rattle.ranked.specs.Choices.{chosen}
use Rattle.ranked.specs.Maps.{duty_of, rule_of}
use Rattle.ranked.proofs.Matching.{next_chosen}
use Rattle.ranked.proofs.maps.RankedMap.first_next.Goals as goal

pub returns : goal.returns
returns c =
    let m = c.args.self.now in
    let node = sym c.if-not-has_node.ensures in
    least_same (chosen c.successors.result) ((ranked_graph (duty_of m) (rule_of m)).edge c.args.v c.args.letter) c.args.from c.least.result
    (next_chosen (duty_of m) (rule_of m) (charts_of m) c.successors.result c.args.v c.args.letter node c.if-letter-self.false
    (c.successors.ensures c.args.v c.read.ensures node)) c.least.ensures
