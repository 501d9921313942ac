-- Paths joined, and walks along them.
use Rattle.std.proofs.Common.{◌≡◌, ℕ, ◌≤◌, true, List, ◌∷◌, refl, arith}
use Rattle.graph.specs.Graphs.{Graph, Bounded}
use Rattle.graph.specs.Walks.{Edge, Reach, begin, go, here, next, Path, OnCycle, Walk, mark, marks, Measure}

pub path_join : (g : Graph) (w : ℕ) {u v : ℕ} → Path g v u → Path g u w → Path g v w
path_join g w here q = q
path_join g w (next e p) q = next e (path_join g w p q)

pub path_edge : (g : Graph) {v w : ℕ} → Edge g v w → Path g v w
path_edge g e = next e here

-- what can be reached is reached further along a path
pub reach_path : (g : Graph) (w : ℕ) {v : ℕ} → Reach g v → Path g v w → Reach g w
reach_path g w r here = r
reach_path g w r (next e p) = reach_path g w (go r e) p

-- a path between different nodes begins with an edge
pub path_first : (g : Graph) (w : ℕ) {v : ℕ} → Path g v w → (v ≡ w → ⊥) → (u : ℕ) × Edge g v u × Path g u w
path_first g w here ne = absurd (ne refl)
path_first g w (next {v} {u} e p) ne = (u, e, p)

-- a walk from the end of a path is the end of a walk from its beginning, which passes no fewer marked nodes
pub path_before : (g : Graph) (w : ℕ) {v : ℕ} → Path g v w → (xs : List ℕ) → Walk g w xs
    → (ys : List ℕ) × Walk g v ys × (marks g w xs ≤ marks g v ys)
path_before g w here xs h = (xs, h, omega arith)
path_before g w (next {v} {u} e p) xs h =
    let r = path_before g w p xs h in
    (u ∷ r.0, (e, r.1), omega (arith, r.2))

-- a measure bounds what a walk passes beyond any path: with one more marked node at its beginning it would pass more
pub measure_path : (g : Graph) (v w m k : ℕ) → Measure g v m → Measure g w k → Path g v w → k ≤ m
measure_path g v w m k mv mw p =
    let r = path_before g w p mw.walk mw.goes in
    omega (arith, mv.most r.0 r.1, r.2, mw.met)

-- a marked node on a cycle has no measure
pub no_measure : (g : Graph) (v m : ℕ) → g.marked v ≡ true → OnCycle g v → Measure g v m → ⊥
no_measure g v m h c mv =
    let r = path_before g v c.2 mv.walk mv.goes in
    let b = mv.most (c.0 ∷ r.0) (c.1, r.1) in
    let one : mark (g.marked v) ≡ 1 = rw h refl in
    omega (arith, b, one, r.2, mv.met)

-- what can be reached is a node
pub reach_node : (g : Graph) → Bounded g → (v : ℕ) → Reach g v → g.node v ≡ true
reach_node g b v (begin s) = b.starts v s
reach_node g b w (go {v} r e) = (b.edges v e.0 w e.2).2
