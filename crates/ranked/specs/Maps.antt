-- The charts that a ranked map is of.
use Rattle.chart.specs.Automata.{Automaton}
use Rattle.ranked.specs.declared.maps.RankedMap.{RankedMap}
use Rattle.ranked.specs.Kept.{kept}

abbrev pub duty_of : RankedMap → Automaton
duty_of m = kept m.duty

abbrev pub rule_of : RankedMap → Automaton
rule_of m = kept m.rule
