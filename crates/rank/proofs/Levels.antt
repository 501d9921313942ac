-- Levels that go round: edges lead one level up or to level s, so each cycle passes level s.
use Rattle.std.proofs.Common.{◌≡◌, ℕ, suc, ◌<◌, ◌≤◌, true, ◌⊎◌, inl, inr, ⊎_elim, ◌∙◌, arith}
use Rattle.std.proofs.lemmas.Bool.{cases_lt}
use Rattle.graph.specs.Graphs.{Graph}
use Rattle.graph.specs.Walks.{Edge, here, next, Path, OnCycle}
use Rattle.graph.proofs.Paths.{path_edge}
use Rattle.lasso.specs.Positions.{after}
use Rattle.lasso.proofs.Places.{after_next, after_last}
use Rattle.rank.proofs.Reaching.{Inside}

-- a graph whose levels go round and that has no marked node on a cycle
pub record Levelled (g : Graph) (V : ℕ) (level : ℕ → ℕ) (e s : ℕ) : Type 0 where
  pub inside : Inside g V
  pub clean : (v : ℕ) → g.marked v ≡ true → OnCycle g v → ⊥
  pub round : (v w : ℕ) → Edge g v w → level w ≡ after e s (level v)

-- more than n different nodes of level s lie on cycles
pub record Crowd (g : Graph) (level : ℕ → ℕ) (s n : ℕ) : Type 0 where
  pub at : ℕ → ℕ
  pub apart : (i j : ℕ) → i ≤ n → j ≤ n → at i ≡ at j → i ≡ j
  pub here : (i : ℕ) → i ≤ n → level (at i) ≡ s
  pub cycle : (i : ℕ) → i ≤ n → OnCycle g (at i)

-- a path from v to w passes level s
abbrev pub Meets : Graph → (ℕ → ℕ) → ℕ → ℕ → ℕ → Type 0
Meets g level s v w = (x : ℕ) × (level x ≡ s) × Path g v x × Path g x w

module _ (g : Graph) (level : ℕ → ℕ) (e s : ℕ) (round : (v w : ℕ) → Edge g v w → level w ≡ after e s (level v)) where
  -- an edge leads to level s or one level up
  edge_level : (v w : ℕ) → Edge g v w → (level w ≡ s) ⊎ (level w ≡ suc (level v))
  edge_level v w h =
      ⊎_elim (λ (low : suc (level v) < e). inr (round v w h ∙ after_next e s (level v) low))
      (λ high. inl (round v w h ∙ after_last e s (level v) high))
      (cases_lt (suc (level v)) e)

  -- An edge and a path, and so each path, passes level s after its first node or goes up.
  step_level : (v u w : ℕ) → Edge g v u → Path g u w → Meets g level s u w ⊎ (level u ≤ level w) → Meets g level s v w ⊎ (level v < level w)
  step_level v u w h p rest =
      ⊎_elim (λ (low : level u ≡ s). inl (u, low, path_edge g h, p))
      (λ up. ⊎_elim (λ meets. inl (meets.0, meets.1, next h meets.2, meets.3)) (λ rises. inr (omega arith)) rest)
      (edge_level v u h)

  path_level : (w v : ℕ) → Path g v w → Meets g level s v w ⊎ (level v ≤ level w)
  path_level w v here = inr (omega arith)
  path_level w v (next {u = u} h p) =
      ⊎_elim (λ meets. inl meets) (λ rises. inr (omega arith)) (step_level v u w h p (path_level w u p))

  pub cycle_level : (v : ℕ) → OnCycle g v → Meets g level s v v
  cycle_level v (u, h, p) =
      ⊎_elim (λ meets. meets) (λ rises. absurd (omega arith)) (step_level v u v h p (path_level v u p))
