-- The charts of an instance, and what a new one is.
use Rattle.std.specs.Prelude.{◌≡◌}
use Rattle.chart.specs.Automata.{Automaton}
use Rattle.chart.specs.Meanings.{fitted_of}
use Rattle.ranked.specs.Together.{GoTogether}
use Rattle.ranked.specs.declared.instances.Instance.{Instance}

module _ {D R : Type 0} where
  -- what the duty means, where m tells the meaning of charts of its kind
  abbrev pub duty_in : (D → Automaton) → Instance D R → Automaton
  duty_in m p = fitted_of m p.duty

  abbrev pub rule_in : (R → Automaton) → Instance D R → Automaton
  rule_in m p = fitted_of m p.rule

pub record NewInstance {D R : Type 0} (meaning_d : D → Automaton) (meaning_r : R → Automaton) (duty : D) (rule : R) (p : Instance D R) : Type 0 where
  pub together : GoTogether (meaning_d duty) (meaning_r rule)
  pub duty_means : duty_in meaning_d p ≡ meaning_d duty
  pub rule_means : rule_in meaning_r p ≡ meaning_r rule
