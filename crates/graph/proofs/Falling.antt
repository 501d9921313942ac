-- Falling measures leave no marked cycle: once round it, a marked node would be there again with a smaller measure,
-- without end.
use Rattle.std.proofs.Common.{◌≡◌, ℕ, zero, suc, ◌<◌, ◌≤◌, true, sym, subst, arith}
use Rattle.graph.specs.Graphs.{Graph}
use Rattle.graph.specs.Walks.{Edge, Reach, begin, go, here, next, Path, OnCycle, MarkedCycle}
use Rattle.graph.specs.Witnesses.{FallingMeasures}

module _ (g : Graph) (node measure : ℕ → ℕ) (count : ℕ) (f : FallingMeasures g node measure count) where
  -- v is there, with a measure of at most m
  abbrev Held : ℕ → ℕ → Type 0
  Held v m = (i : ℕ) × (i < count) × (node i ≡ v) × (measure i ≤ m)

  held_edge : (v w m : ℕ) → Held v m → Edge g v w → Held w m
  held_edge v w m (i, h, is, low) (l, below, e) =
      let s = f.edges i l w h (subst (λ x. g.edge x l w ≡ true) (sym is) e) in
      (s.0, s.1, s.2, omega (arith, s.3, low))

  -- from a marked node with a smaller measure
  held_marked : (v w m : ℕ) → Held v (suc m) → g.marked v ≡ true → Edge g v w → Held w m
  held_marked v w m (i, h, is, low) marked (l, below, e) =
      let s = f.edges i l w h (subst (λ x. g.edge x l w ≡ true) (sym is) e) in
      (s.0, s.1, s.2, omega (arith, s.4 (subst (λ x. g.marked x ≡ true) (sym is) marked), low))

  held_path : (w m : ℕ) {v : ℕ} → Path g v w → Held v m → Held w m
  held_path w m here h = h
  held_path w m (next {v} {u} e p) h = held_path w m p (held_edge v u m h e)

  reached_held : {v : ℕ} → Reach g v → (m : ℕ) × Held v m
  reached_held (begin {v} s) = let a = f.starts v s in (measure a.0, (a.0, a.1, a.2, omega arith))
  reached_held (go {v} {w} r e) = let a = reached_held r in (a.0, held_edge v w a.0 a.1 e)

  -- a marked node on a cycle would be there with every measure
  held_falls : (v : ℕ) → g.marked v ≡ true → OnCycle g v → (m : ℕ) → Held v m → ⊥
  held_falls v marked (u, e, p) zero (i, h, is, low) =
      let s = f.edges i e.0 u h (subst (λ x. g.edge x e.0 u ≡ true) (sym is) e.2) in
      omega (arith, s.4 (subst (λ x. g.marked x ≡ true) (sym is) marked), low)
  held_falls v marked (u, e, p) (suc m) h = held_falls v marked (u, e, p) m (held_path v m p (held_marked v u m h marked e))

  pub falling_none : MarkedCycle g → ⊥
  falling_none (v, r) = let h = reached_held r.reached in held_falls v r.marked r.cycle h.0 h.1
