-- The graph of a ranked map keeps the bounds of graphs.
use Rattle.graph.specs.Graphs.{Bounded}
use Rattle.rank.specs.Containment.{Charts}
use Rattle.rank.specs.Ranked.{ranked_graph}
use Rattle.rank.proofs.Numbers.{numbers_correspond}
use Rattle.ranked.specs.Maps.{duty_of, rule_of}
use Rattle.ranked.specs.declared.maps.RankedMap.{RankedMap}

pub charts_of : (m : RankedMap) → Charts (duty_of m) (rule_of m)
charts_of m = record { duty = m.duty.limits; rule = m.rule.limits; few_states = m.few_states }

pub ranked_bounded : (m : RankedMap) → Bounded (ranked_graph (duty_of m) (rule_of m))
ranked_bounded m = (numbers_correspond (duty_of m) (rule_of m) (charts_of m)).bounded
