-- Walks as functions of the place: a trail from node to node, and a loop, which is a trail from a start that comes
-- back to a node of its own and passes a marked one on the way. A graph has a loop where it has a marked cycle, and
-- where its nodes are few it has a short one.
use Rattle.std.proofs.Common.{◌≡◌, ℕ, zero, suc, ◌+◌, ◌-◌, ◌*◌, ◌<◌, ◌≤◌, true, cond, ltb, sym, refl, ap, ◌∙◌, subst, ⊎_elim, arith}
use Rattle.std.proofs.lemmas.Bool.{cases_lt, cond-true, cond-false, lt-ltb, le-ltb}
use Rattle.numbers.specs.Returning.{Return}
use Rattle.graph.specs.Graphs.{Graph}
use Rattle.graph.specs.Walks.{Edge, Reach, begin, go, here, next, Path, MarkedCycle}
use Rattle.graph.proofs.Counting.{Placed, same_twice}
use Rattle.graph.proofs.Paths.{path_join}

-- an edge leads from the node at place k to the one at the next place
abbrev pub Goes : Graph → (ℕ → ℕ) → (ℕ → ℕ) → ℕ → Type 0
Goes g at by k = (by k < g.letters) × (g.edge (at k) (by k) (at (suc k)) ≡ true)

-- n edges lead from v to w
pub record Trail (g : Graph) (v n w : ℕ) : Type 0 where
  pub at : ℕ → ℕ
  pub by : ℕ → ℕ
  pub begins : at 0 ≡ v
  pub ends : at n ≡ w
  pub edges : (k : ℕ) → k < n → Goes g at by k

-- a trail from a start that comes back to one of its nodes, past a marked one
pub record Loop (g : Graph) : Type 0 where
  pub at : ℕ → ℕ
  pub by : ℕ → ℕ
  pub starts : g.start (at 0) ≡ true
  pub back : Return at (λ k. g.marked (at k) ≡ true) 0 1
  pub edges : (k : ℕ) → k < back.to → Goes g at by k

module _ (g : Graph) where
  move : {a b c d l m : ℕ} → a ≡ b → l ≡ m → c ≡ d → (l < g.letters) × (g.edge a l c ≡ true) → (m < g.letters) × (g.edge b m d ≡ true)
  move e f h (below, goes) = (omega arith, grind arith)

  -- the walk that goes on as t does from its place n on
  along : {A : Type 0} → (ℕ → A) → (ℕ → A) → ℕ → ℕ → A
  along s t n k = cond (ltb k n) (s k) (t (k - n))

  along_low : {A : Type 0} (s t : ℕ → A) (n k : ℕ) → k < n → along s t n k ≡ s k
  unfolding along
  along_low s t n k h = cond-true (ltb k n) (s k) (t (k - n)) (lt-ltb k n h)

  along_high : {A : Type 0} (s t : ℕ → A) (n k j : ℕ) → n + j ≡ k → along s t n k ≡ t j
  unfolding along
  along_high s t n k j e =
      cond-false (ltb k n) (s k) (t (k - n)) (le-ltb k n (omega arith)) ∙ ap t (let h : k - n ≡ j = omega arith in h)

  along_seam : {A : Type 0} (s t : ℕ → A) (n k : ℕ) → s n ≡ t 0 → k ≤ n → along s t n k ≡ s k
  along_seam s t n k e h =
      ⊎_elim (λ (low : k < n). along_low s t n k low)
      (λ high. let same : n ≡ k = omega arith in along_high s t n k 0 (omega arith) ∙ sym e ∙ ap s same)
      (cases_lt k n)

  none : (v : ℕ) → Trail g v 0 v
  none v = record { at = λ k. v; by = λ k. 0; begins = refl; ends = refl; edges = λ k h. absurd (omega arith) }

  one : {v w : ℕ} → Edge g v w → Trail g v 1 w
  one {v} {w} (l, below, goes) =
      record {
        at = λ k. cond (ltb k 1) v w;
        by = λ k. l;
        begins = refl;
        ends = refl;
        edges = λ k h. let e : 0 ≡ k = omega arith in subst (Goes g (λ k. cond (ltb k 1) v w) (λ k. l)) e (below, goes);
      }

  join : {u v w m n : ℕ} → Trail g u m v → Trail g v n w → Trail g u (m + n) w
  join {m = m} {n = n} s t =
      let seam : s.at m ≡ t.at 0 = s.ends ∙ sym t.begins in
      record {
        at = along s.at t.at m;
        by = along s.by t.by m;
        begins = along_seam s.at t.at m 0 seam (omega arith) ∙ s.begins;
        ends = along_high s.at t.at m (m + n) n refl ∙ t.ends;
        edges =
            λ k h. ⊎_elim
            (λ (low : k < m). move (sym (along_low s.at t.at m k low)) (sym (along_low s.by t.by m k low))
            (sym (along_seam s.at t.at m (suc k) seam low)) (s.edges k low))
            (λ high. move (sym (along_high s.at t.at m k (k - m) (omega arith))) (sym (along_high s.by t.by m k (k - m) (omega arith)))
            (sym (along_high s.at t.at m (suc k) (suc (k - m)) (omega arith))) (t.edges (k - m) (omega arith)))
            (cases_lt k m);
      }

  join_seam : {u v w m n : ℕ} (s : Trail g u m v) (t : Trail g v n w) → (join s t).at m ≡ v
  unfolding join
  join_seam {m = m} s t = along_high s.at t.at m m 0 (omega arith) ∙ t.begins

  -- the first i edges of a trail, and those from place i on
  front : {v w n : ℕ} (t : Trail g v n w) (i : ℕ) → i ≤ n → Trail g v i (t.at i)
  front t i h = record { at = t.at; by = t.by; begins = t.begins; ends = refl; edges = λ k below. t.edges k (omega arith) }

  rest : {v w n : ℕ} (t : Trail g v n w) (i j : ℕ) → i + j ≡ n → Trail g (t.at i) j w
  rest {n = n} t i j e =
      record {
        at = λ k. t.at (i + k);
        by = λ k. t.by (i + k);
        begins = ap t.at (let h : i + 0 ≡ i = omega arith in h);
        ends = ap t.at e ∙ t.ends;
        edges =
            λ k h. move refl refl (ap t.at (let s : suc (i + k) ≡ i + suc k = omega arith in s)) (t.edges (i + k) (omega arith));
      }

  path_trail : {w v : ℕ} → Path g v w → (n : ℕ) × Trail g v n w
  path_trail here = (0, none _)
  path_trail (next e p) = let t = path_trail p in (1 + t.0, join (one e) t.1)

  -- a start, and a trail from it
  reach_trail : {w : ℕ} → Reach g w → (s : ℕ) × (n : ℕ) × (g.start s ≡ true) × Trail g s n w
  reach_trail (begin {v} h) = (v, 0, h, none v)
  reach_trail (go r e) = let t = reach_trail r in (t.0, t.1 + 1, t.2, join t.3 (one e))

  reach_along : (at by : ℕ → ℕ) → Reach g (at 0) → (n : ℕ) → ((k : ℕ) → k < n → Goes g at by k) → Reach g (at n)
  reach_along at by r zero edges = r
  reach_along at by r (suc n) edges =
      let e = edges n (omega arith) in
      go (reach_along at by r n (λ k h. edges k (omega arith))) (by n, e.0, e.1)

  -- A trail that repeats a node goes on from the second time as from the first, and is shorter so. Where V places hold every
  -- reachable node, it is cut to fewer than V edges, since its nodes, the last one too, are different then.
  shorten : (V : ℕ) (node : ℕ → ℕ) → Placed g V node → (most : ℕ) {v w : ℕ} (n : ℕ) → n ≤ most → Reach g v → Trail g v n w → (m : ℕ) × (m < V) × Trail g v m w
  shorten V node whole zero {v} n h r t = (n, omega (arith, (whole v r).1), t)
  shorten V node whole (suc most) {v} {w} n h r t =
      ⊎_elim (λ (short : n < V). (n, short, t))
      (λ (long : V ≤ n).
      let reached : (k : ℕ) → k ≤ V → Reach g (t.at k) =
      λ k low. reach_along t.at t.by (rw t.begins r) k (λ i h. t.edges i (omega arith)) in
      let (i, j, apart, within, same) = same_twice g V V node (omega arith) whole t.at reached in
      let cut : Trail g (t.at i) (n - j) w = subst (λ x. Trail g x (n - j) w) (sym same) (rest t j (n - j) (omega arith)) in
      shorten V node whole most (i + (n - j)) (omega arith) r (join (front t i (omega arith)) cut))
      (cases_lt n V)

  -- a trail from a start, an edge, and a trail back make a loop
  looped : {s v u m n : ℕ} → g.start s ≡ true → g.marked v ≡ true → Trail g s m v → Edge g v u → Trail g u n v → (l : Loop g) × (l.back.to ≡ m + (1 + n))
  looped {v = v} {m = m} {n = n} start mark t e back =
      let all = join t (join (one e) back) in
      let there : all.at m ≡ v = join_seam t (join (one e) back) in (
        record {
          at = all.at;
          by = all.by;
          starts = rw all.begins start;
          back =
              record {
                from = m;
                to = m + (1 + n);
                late = omega arith;
                goes = omega arith;
                apart = (1 + n, omega arith);
                closes = there ∙ sym all.ends;
                passes = (m, omega arith, omega arith, rw there mark);
              };
          edges = all.edges;
        },
        refl,
      )

  pub cycle_loop : MarkedCycle g → Loop g
  cycle_loop (v, r) =
      let t = reach_trail r.reached in
      let back = path_trail r.cycle.2 in
      (looped t.2 r.marked t.3 r.cycle.1 back.1).0

  -- where V places hold every reachable node, each of the two trails is cut to fewer than V edges
  pub cycle_short_loop : (V : ℕ) (node : ℕ → ℕ) → Placed g V node → MarkedCycle g → (l : Loop g) × (l.back.to < 2 * V)
  cycle_short_loop V node whole (v, r) =
      let t = reach_trail r.reached in
      let back = path_trail r.cycle.2 in
      let there = shorten V node whole t.1 t.1 (omega arith) (begin t.2) t.3 in
      let again = shorten V node whole back.0 back.0 (omega arith) (go r.reached r.cycle.1) back.1 in
      let l = looped t.2 r.marked there.2 r.cycle.1 again.2 in
      (l.0, omega (arith, l.1, there.1, again.1))

  pub path_along : (at by : ℕ → ℕ) (d i j : ℕ) → i + d ≡ j → ((k : ℕ) → k < j → Goes g at by k) → Path g (at i) (at j)
  path_along at by zero i j e edges = let same : i ≡ j = omega arith in subst (λ x. Path g (at i) (at x)) same here
  path_along at by (suc d) i j e edges =
      let s = edges i (omega arith) in
      next (by i, s.0, s.1) (path_along at by d (suc i) j (omega arith) edges)

  pub loop_cycle : Loop g → MarkedCycle g
  loop_cycle l =
      let k = l.back.passes.0 in
      let low : l.back.from ≤ k = l.back.passes.1 in
      let high : k < l.back.to = l.back.passes.2 in
      let e = l.edges k high in
      let onward = path_along l.at l.by (l.back.to - suc k) (suc k) l.back.to (omega arith) l.edges in
      let back = path_along l.at l.by (k - l.back.from) l.back.from k (omega arith) (λ i h. l.edges i (omega arith)) in (
        l.at k,
        record {
          reached = reach_along l.at l.by (begin l.starts) k (λ i h. l.edges i (omega arith));
          marked = l.back.passes.3;
          cycle = (l.at (suc k), (l.by k, e.0, e.1), path_join g (l.at k) onward (subst (λ x. Path g x (l.at k)) l.back.closes back));
        },
      )
