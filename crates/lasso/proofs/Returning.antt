-- A run that accepts comes back to one of its states, of which the chart has few, past a marked one.
use Rattle.std.proofs.Common.{◌≡◌, ℕ, suc, ◌<◌, true}
use Rattle.chart.specs.Automata.{Automaton, Limits}
use Rattle.numbers.proofs.Returning.{returns}
use Rattle.lasso.specs.Agreement.{RunsReturn}
use Rattle.lasso.specs.Words.{Accepts}

-- every state of the run is one of the chart's
pub run_below : (m : Automaton) (word : ℕ → ℕ) → Limits m → (a : Accepts m word) (k : ℕ) → a.run k < m.states
run_below m word limits a k = (limits.steps (a.run k) (word k) (a.run (suc k)) (a.steps k)).0

pub runs_return : RunsReturn
runs_return m word limits a j p h =
    returns m.states a.run (run_below m word limits a) (λ i. m.mark (a.run i) ≡ true) a.again j p h
