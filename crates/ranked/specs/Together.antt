-- Which duties and rules go together, and which refusal says that two do not.
use Rattle.std.specs.Prelude.{◌≡◌, ◌<◌, ◌≤◌}
use Rattle.chart.specs.Automata.{Automaton}
use Rattle.ranked.specs.declared.faults.InstanceFault.{InstanceFault}
use Rattle.ranked.specs.declared.faults.InstanceFault.TheVariants.{Letters, States}

-- the charts have the same letters, and the rule at most 6 states
pub record GoTogether (a b : Automaton) : Type 0 where
  pub letters : a.letters ≡ b.letters
  pub few_states : b.states ≤ 6

-- 5 comes before 6
abbrev pub InstanceRefused : Automaton → Automaton → InstanceFault → Type 0
InstanceRefused a b Letters = a.letters ≡ b.letters → ⊥
InstanceRefused a b States = (a.letters ≡ b.letters) × (6 < b.states)
