-- Where at most n nodes of level s lie on cycles, the nodes of a levelled graph have ranks up to 2 * n.
use Rattle.std.proofs.Common.{◌≡◌, ℕ, suc, ◌*◌, ◌<◌, ◌≤◌, true, false, arith}
use Rattle.graph.specs.Graphs.{Graph}
use Rattle.graph.specs.Walks.{Edge, OnCycle}
use Rattle.rank.specs.Rules.{is_even}
use Rattle.rank.proofs.Heights.{rank, rank_bounded, rank_falls, marked_even, cycle_odd}
use Rattle.rank.proofs.Levels.{Levelled, Crowd}
use Rattle.rank.proofs.Chains.{odd_chain}

-- ranks of the nodes below V, up to a greatest one
pub record Ranking (g : Graph) (V top : ℕ) : Type 0 where
  pub rank : ℕ → ℕ
  pub most : (v : ℕ) → v < V → rank v ≤ top
  pub falls : (v w : ℕ) → Edge g v w → rank w ≤ rank v
  pub even : (v : ℕ) → v < V → g.marked v ≡ true → is_even (rank v) ≡ true
  pub odd : (v : ℕ) → OnCycle g v → is_even (rank v) ≡ false

-- The cut-off of the ranks is one above what they can be, so that it cuts off none.
pub ranking : (g : Graph) (V : ℕ) (level : ℕ → ℕ) (e s n : ℕ) → Levelled g V level e s → (Crowd g level s n → ⊥) → Ranking g V (2 * n)
ranking g V level e s n l few =
    let b = suc (2 * n) in
    let most : (v : ℕ) → rank g V b v ≤ 2 * n =
    λ v. rank_bounded g V l.inside b (2 * n) v (λ a. few (odd_chain g V level e s l n v a).crowd) in
    let below : (v : ℕ) → rank g V b v < b = λ v. omega (arith, most v) in
    record {
      rank = rank g V b;
      most = λ v h. most v;
      falls = rank_falls g V l.inside b;
      even = λ v h. marked_even g V l.inside b v h (below v);
      odd = λ v. cycle_odd g V l.inside b v (below v);
    }
