-- The charts on a bench.
use Rattle.std.specs.Prelude.{◌≡◌}
use Rattle.chart.specs.Automata.{Automaton}
use Rattle.ranked.specs.Instances.{duty_in, rule_in}
use Rattle.bench.specs.declared.benches.Bench.{Bench}

module _ {D R : Type 0} where
  -- what the duty means, where m tells the meaning of charts of its kind
  abbrev pub duty_on : (D → Automaton) → Bench D R → Automaton
  duty_on m s = duty_in m s.instance

  abbrev pub rule_on : (R → Automaton) → Bench D R → Automaton
  rule_on m s = rule_in m s.instance

-- the charts and the room are the same
pub record SameBench {D R : Type 0} (s t : Bench D R) : Type 0 where
  pub instance : t.instance ≡ s.instance
  pub room : t.room ≡ s.room
