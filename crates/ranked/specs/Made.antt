-- The ranked map of a duty and a rule.
use Rattle.std.specs.Prelude.{◌≡◌}
use Rattle.chart.specs.Automata.{Automaton}
use Rattle.ranked.specs.Maps.{duty_of, rule_of}
use Rattle.ranked.specs.Together.{GoTogether}
use Rattle.ranked.specs.declared.maps.RankedMap.{RankedMap}

-- the map is that of a and b
pub record Made (a b : Automaton) (m : RankedMap) : Type 0 where
  pub together : GoTogether a b
  pub duty : duty_of m ≡ a
  pub rule : rule_of m ≡ b
