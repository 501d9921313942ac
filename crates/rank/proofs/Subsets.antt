-- The levels of the subset construction: their size, and how runs lead from one to the next.
use Rattle.std.proofs.Common.{◌≡◌, ℕ, zero, suc, ◌*◌, ◌<◌, ◌≤◌, true, arith}
use Rattle.chart.specs.Automata.{Automaton, Limits}
use Rattle.numbers.proofs.Counts.{count_most}
use Rattle.lasso.specs.Words.{Accepts}
use Rattle.rank.specs.Rules.{top_rank}
use Rattle.rank.specs.Subsets.{level, size}
use Rattle.rank.proofs.Laws.{follows_from, follows_some}

-- twice the size of a level is not above the greatest rank
pub size_top : (b : Automaton) (word : ℕ → ℕ) (k : ℕ) → 2 * size b (level b word k) ≤ top_rank b
size_top b word k = omega (arith, count_most (level b word k) b.states)

module _ (b : Automaton) (rule : Limits b) (word : ℕ → ℕ) where
  pub level_below : (k q : ℕ) → level b word k q ≡ true → q < b.states
  level_below zero q e = rule.starts q e
  level_below (suc k) q e = let f = follows_some b (level b word k) (word k) q e in (rule.steps f.0 (word k) q f.3).2

  pub level_before : (k q : ℕ) → level b word (suc k) q ≡ true → (p : ℕ) × (level b word k p ≡ true) × (b.step p (word k) q ≡ true)
  level_before k q e = let f = follows_some b (level b word k) (word k) q e in (f.0, f.2, f.3)

  pub level_next : (k p q : ℕ) → level b word k p ≡ true → b.step p (word k) q ≡ true → level b word (suc k) q ≡ true
  level_next k p q e s = follows_from b (level b word k) (word k) p q (rule.steps p (word k) q s).0 e s

  -- a run is in the levels
  pub level_run : (a : Accepts b word) (k : ℕ) → level b word k (a.run k) ≡ true
  level_run a zero = a.starts
  level_run a (suc k) = level_next k (a.run k) (a.run (suc k)) (level_run a k) (a.steps k)
