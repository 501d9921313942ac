-- Tests that tell whether paths lead from node to node of a finite graph, and whether a node lies on a cycle: Warshall's
-- closure. What the tests say, and what makes them true.
use Rattle.std.proofs.Common.{◌≡◌, ℕ, zero, suc, ◌<◌, Bool, true, ◌&&◌, ◌||◌, eqb, ◌⊎◌, inl, inr, ⊎_elim, subst, refl, arith}
use Rattle.std.proofs.lemmas.Bool.{cases_Bool, or_cases, or_left, or_right, and_parts, and_from, eqb-true, eq-eqb, both_ways}
use Rattle.graph.specs.Graphs.{Graph}
use Rattle.graph.specs.Walks.{Edge, here, next, Path, OnCycle}
use Rattle.graph.proofs.Paths.{path_join}
use Rattle.numbers.specs.Below.{any_below}
use Rattle.numbers.proofs.Below.{any_at, any_from}

-- edges lead only between nodes below V, by the graph's letters
abbrev pub Inside : Graph → ℕ → Type 0
Inside g V = (v l w : ℕ) → g.edge v l w ≡ true → (v < V) × (l < g.letters) × (w < V)

-- some edge leads from v to w
abbrev pub joined : Graph → ℕ → ℕ → Bool
joined g v w = any_below g.letters (λ l. g.edge v l w)

-- edges lead from v to w, and between them come only nodes below k
abbrev pub via : Graph → ℕ → ℕ → ℕ → Bool
via g zero v w = joined g v w
via g (suc k) v w = via g k v w || (via g k v k && via g k k w)

-- edges, or none, lead from v to w
abbrev pub leads : Graph → ℕ → ℕ → ℕ → Bool
leads g V v w = eqb v w || via g V v w

-- edges lead from v back to v
abbrev pub loops : Graph → ℕ → ℕ → Bool
loops g V v = via g V v v

-- one edge or more lead from v to w, as `OnCycle` says of v and v
abbrev pub Way : Graph → ℕ → ℕ → Type 0
Way g v w = (u : ℕ) × Edge g v u × Path g u w

module _ (g : Graph) where
  pub joined_edge : (v w : ℕ) → joined g v w ≡ true → Edge g v w
  joined_edge v w e = any_at g.letters (λ l. g.edge v l w) e

  pub edge_joined : (v w : ℕ) → Edge g v w → joined g v w ≡ true
  edge_joined v w e = any_from g.letters (λ l. g.edge v l w) e.0 e.1 e.2

  way_path : (v w : ℕ) → Way g v w → Path g v w
  way_path v w p = next p.1 p.2

  -- a way by k is one to k and one on from there
  via_way : (k v w : ℕ) → via g k v w ≡ true → Way g v w
  via_way zero v w e = let a = joined_edge v w e in (w, a, here)
  via_way (suc k) v w e =
      ⊎_elim (λ direct. via_way k v w direct)
      (λ both. let b = and_parts (via g k v k) (via g k k w) both in
      let p = via_way k v k b.0 in
      (p.0, p.1, path_join g w p.2 (way_path k w (via_way k k w b.1))))
      (or_cases (via g k v w) (via g k v k && via g k k w) e)

  edge_via : (k v w : ℕ) → joined g v w ≡ true → via g k v w ≡ true
  edge_via zero v w e = e
  edge_via (suc k) v w e = grind (arith, edge_via k v w)

  via_join : (k v u w : ℕ) → u < k → via g k v u ≡ true → via g k u w ≡ true → via g k v w ≡ true
  via_join zero v u w h e f = elim h [ ]
  via_join (suc k) v u w h e f = grind (arith, via_join k)

module _ (g : Graph) (V : ℕ) where
  pub leads_path : (v w : ℕ) → leads g V v w ≡ true → Path g v w
  leads_path v w e =
      ⊎_elim (λ same. subst (λ x. Path g v x) (eqb-true v w same) here) (λ further. way_path g v w (via_way g V v w further))
      (or_cases (eqb v w) (via g V v w) e)

  pub loops_cycle : (v : ℕ) → loops g V v ≡ true → OnCycle g v
  loops_cycle v e = via_way g V v v e

module _ (g : Graph) (V : ℕ) (inside : Inside g V) where
  way_via : (w v u : ℕ) → Edge g v u → Path g u w → via g V v w ≡ true
  way_via w v u e here = edge_via g V v u (edge_joined g v u e)
  way_via w v u e (next {u = x} f p) =
      via_join g V v u w (inside v e.0 u e.2).2 (edge_via g V v u (edge_joined g v u e)) (way_via w u x f p)

  pub path_leads : (v w : ℕ) → Path g v w → leads g V v w ≡ true
  path_leads v w here = or_left (eqb v w) (via g V v w) (eq-eqb v w refl)
  path_leads v w (next {u = u} e p) = or_right (eqb v w) (via g V v w) (way_via w v u e p)

  pub cycle_loops : (v : ℕ) → OnCycle g v → loops g V v ≡ true
  cycle_loops v c = way_via v v c.0 c.1 c.2

  pub marked_cycle_decided :
      ((v : ℕ) × (v < V) × (g.marked v ≡ true) × OnCycle g v) ⊎ ((v : ℕ) → v < V → g.marked v ≡ true → OnCycle g v → ⊥)
  marked_cycle_decided =
      let p : ℕ → Bool = λ v. g.marked v && loops g V v in
      ⊎_elim (λ some. let a = any_at V p some in
      let b = and_parts (g.marked a.0) (loops g V a.0) a.2 in
      inl (a.0, a.1, b.0, loops_cycle g V a.0 b.1))
      (λ none. inr (λ v h m c. both_ways (any_below V p) none (any_from V p v h (and_from (g.marked v) (loops g V v) m (cycle_loops v c)))))
      (cases_Bool (any_below V p))
