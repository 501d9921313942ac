-- The heights of a graph's nodes. The greatest height of a node is its rank, so ranks never rise along an edge, and a
-- marked node has an even one and a node on a cycle an odd one, since else it would have a greater height.
use Rattle.std.proofs.Common.{◌≡◌, ℕ, zero, suc, ◌<◌, ◌≤◌, Bool, true, false, cond, ◌&&◌, ◌∙◌, ⊎_elim, subst, refl, arith}
use Rattle.std.proofs.lemmas.Bool.{and_parts, and_from, cases_lt, cases_Bool, cond-true, cond-false}
use Rattle.graph.specs.Graphs.{Graph}
use Rattle.graph.specs.Walks.{Edge, here, Path, OnCycle}
use Rattle.graph.proofs.Paths.{path_join, path_edge}
use Rattle.numbers.specs.Below.{any_below}
use Rattle.numbers.proofs.Below.{any_at, any_from}
use Rattle.rank.specs.Rules.{is_even}
use Rattle.rank.proofs.Reaching.{Inside, leads, loops, leads_path, path_leads, cycle_loops}

-- the greatest number up to b that passes, or 0
abbrev pub greatest : (ℕ → Bool) → ℕ → ℕ
greatest p zero = 0
greatest p (suc b) = cond (p (suc b)) (suc b) (greatest p b)

-- what a node must be to give the nodes before it the height i and one more: on a cycle if i is even, else marked
abbrev pub stop : Graph → ℕ → ℕ → ℕ → Bool
stop g V i u = cond (is_even i) (loops g V u) (g.marked u)

-- Each node has height 0. Height 1 is to reach a cycle, height 2 to reach a marked node that reaches a cycle, and so on in
-- turn.
abbrev pub alive : Graph → ℕ → ℕ → ℕ → Bool
alive g V zero v = true
alive g V (suc i) v = any_below V (λ u. leads g V v u && (stop g V i u && alive g V i u))

-- the greatest height of v up to b
abbrev pub rank : Graph → ℕ → ℕ → ℕ → ℕ
rank g V b v = greatest (λ i. alive g V i v) b

greatest_bounded : (p : ℕ → Bool) (b : ℕ) → greatest p b ≤ b
greatest_bounded p zero = omega arith
greatest_bounded p (suc b) = grind (arith, greatest_bounded p b)

greatest_passes : (p : ℕ → Bool) (b : ℕ) → p 0 ≡ true → p (greatest p b) ≡ true
greatest_passes p zero h = h
greatest_passes p (suc b) h = grind (arith, greatest_passes p b)

greatest_most : (p : ℕ → Bool) (b i : ℕ) → i ≤ b → p i ≡ true → i ≤ greatest p b
greatest_most p zero i h e = h
greatest_most p (suc b) i h e = grind (arith, greatest_most p b i)

-- what height i and one more is made of
pub record Higher (g : Graph) (V i v : ℕ) : Type 0 where
  pub node : ℕ
  pub inside : node < V
  pub path : Path g v node
  pub stops : stop g V i node ≡ true
  pub height : alive g V i node ≡ true

module _ (g : Graph) (V : ℕ) where
  pub higher : (i v : ℕ) → alive g V (suc i) v ≡ true → Higher g V i v
  higher i v e =
      let a = any_at V (λ u. leads g V v u && (stop g V i u && alive g V i u)) e in
      let b = and_parts (leads g V v a.0) (stop g V i a.0 && alive g V i a.0) a.2 in
      let c = and_parts (stop g V i a.0) (alive g V i a.0) b.1 in
      record { node = a.0; inside = a.1; path = leads_path g V v a.0 b.0; stops = c.0; height = c.1 }

module _ (g : Graph) (V : ℕ) (inside : Inside g V) where
  higher_alive : (i v : ℕ) → Higher g V i v → alive g V (suc i) v ≡ true
  higher_alive i v h =
      let u = h.node in
      any_from V (λ u. leads g V v u && (stop g V i u && alive g V i u)) u h.inside
      (and_from (leads g V v u) (stop g V i u && alive g V i u) (path_leads g V inside v u h.path)
      (and_from (stop g V i u) (alive g V i u) h.stops h.height))

  -- a node has the heights of those that it reaches
  alive_before : (i v w : ℕ) → Path g v w → alive g V i w ≡ true → alive g V i v ≡ true
  alive_before zero v w p e = refl
  alive_before (suc i) v w p e =
      let h = higher g V i w e in
      higher_alive i v (record { node = h.node; inside = h.inside; path = path_join g h.node p h.path; stops = h.stops; height = h.height })

  alive_less : (i v : ℕ) → alive g V (suc i) v ≡ true → alive g V i v ≡ true
  alive_less i v e = let h = higher g V i v e in alive_before i v h.node h.path h.height

  -- a node has all heights up to its greatest
  alive_down : (i j v : ℕ) → j ≤ i → alive g V i v ≡ true → alive g V j v ≡ true
  alive_down zero j v h e = grind arith
  alive_down (suc i) j v h e =
      ⊎_elim (λ (low : j < suc i). alive_down i j v (omega arith) (alive_less i v e))
      (λ high. let same : suc i ≡ j = omega arith in subst (λ k. alive g V k v ≡ true) same e)
      (cases_lt j (suc i))

  alive_rank : (b v : ℕ) → alive g V (rank g V b v) v ≡ true
  alive_rank b v = greatest_passes (λ i. alive g V i v) b refl

  pub rank_bounded : (b i v : ℕ) → (alive g V (suc i) v ≡ true → ⊥) → rank g V b v ≤ i
  rank_bounded b i v none =
      ⊎_elim (λ (high : i < rank g V b v). absurd (none (alive_down (rank g V b v) (suc i) v high (alive_rank b v)))) (λ low. low)
      (cases_lt i (rank g V b v))

  pub rank_falls : (b v w : ℕ) → Edge g v w → rank g V b w ≤ rank g V b v
  rank_falls b v w e =
      let r = rank g V b w in
      greatest_most (λ i. alive g V i v) b r (greatest_bounded (λ i. alive g V i w) b)
      (alive_before r v w (path_edge g e) (alive_rank b w))

  -- a node of a rank below the cut-off is not what that rank asks for, or else it were one higher itself
  rank_stops : (b v : ℕ) → v < V → rank g V b v < b → stop g V (rank g V b v) v ≡ true → ⊥
  rank_stops b v h low e =
      let r = rank g V b v in
      let more : alive g V (suc r) v ≡ true =
      higher_alive r v (record { node = v; inside = h; path = here; stops = e; height = alive_rank b v }) in
      omega (arith, greatest_most (λ i. alive g V i v) b (suc r) low more)

  pub marked_even : (b v : ℕ) → v < V → rank g V b v < b → g.marked v ≡ true → is_even (rank g V b v) ≡ true
  marked_even b v h low m =
      let r = rank g V b v in
      ⊎_elim (λ even. even)
      (λ odd. absurd (rank_stops b v h low (cond-false (is_even r) (loops g V v) (g.marked v) odd ∙ m)))
      (cases_Bool (is_even r))

  pub cycle_odd : (b v : ℕ) → rank g V b v < b → OnCycle g v → is_even (rank g V b v) ≡ false
  cycle_odd b v low c =
      let r = rank g V b v in
      let h = (inside v c.1.0 c.0 c.1.2).0 in
      ⊎_elim
      (λ even. absurd (rank_stops b v h low (cond-true (is_even r) (loops g V v) (g.marked v) even ∙ cycle_loops g V inside v c)))
      (λ odd. odd) (cases_Bool (is_even r))
