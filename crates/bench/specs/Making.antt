-- What a new bench is, and when none is made.
use Rattle.std.specs.Prelude.{◌≡◌, ℕ}
use Rattle.bench.specs.Benches.{duty_on, rule_on}
use Rattle.bench.specs.declared.benches.Bench.{Bench}
use Rattle.bench.specs.declared.states.State.TheVariants.{Empty}
use Rattle.chart.specs.Automata.{Automaton}
use Rattle.bench.specs.declared.faults.BenchFault.{BenchFault}
use Rattle.bench.specs.declared.faults.BenchFault.TheVariants.{Instance, Room}
use Rattle.ranked.specs.Together.{GoTogether, InstanceRefused}
use Rattle.records.specs.Sizes.{Allowed}

pub record NewBench {D R : Type 0} (meaning_d : D → Automaton) (meaning_r : R → Automaton) (duty : D) (rule : R) (room : ℕ) (s : Bench D R) : Type 0 where
  pub together : GoTogether (meaning_d duty) (meaning_r rule)
  pub allowed : Allowed room
  pub duty_means : duty_on meaning_d s ≡ meaning_d duty
  pub rule_means : rule_on meaning_r s ≡ meaning_r rule
  pub same_room : s.room ≡ room
  pub empty : s.state ≡ Empty

-- Refused: 5 and 6 come before 7.
abbrev pub NewRefused : Automaton → Automaton → ℕ → BenchFault → Type 0
NewRefused a b room (Instance e) = InstanceRefused a b e
NewRefused a b room Room = GoTogether a b × (Allowed room → ⊥)
NewRefused a b room _ = ⊥
