-- A path from a start to a marked node and a path from the node back to it are a lasso, and each is found where there is one.
use Rattle.std.proofs.Common.{◌≡◌, ℕ, zero, suc, ◌+◌, ◌-◌, ◌*◌, ◌<◌, ◌≤◌, true, List, [], Some, None, Option, length, get_or, take, drop, ◌++◌, sym, refl, ap, ◌∙◌, subst, ⊎_elim, arith, length-append, append_assoc}
use Rattle.std.proofs.Math.ListN.{drop_of_length-le}
use Rattle.std.proofs.Math.Seq.{take-append_seam, drop-append_seam}
use Rattle.std.proofs.lemmas.Bool.{cases_lt, eqb-true, eq-eqb}
use Rattle.std.proofs.lemmas.List.{append-nil, drop-drop, take_rest, take-append-drop, length-drop, get_or_append_left, get_or-append_right}
use Rattle.records.specs.declared.faults.SearchFault.{SearchFault}
use Rattle.records.specs.declared.faults.SearchFault.TheVariants.{Table, Full}
use Rattle.graph.specs.declared.implicit.ImplicitGraph.{ImplicitGraph}
use Rattle.graph.specs.Graphs.{Graph, Bounded}
use Rattle.graph.specs.Implicit.{graph_of}
use Rattle.graph.specs.Walks.{Edge, Reach, begin, go, here, next, Path, OnCycle, Recurring, More}
use Rattle.graph.specs.Witnesses.{MarkedLasso}
use Rattle.lasso.specs.Positions.{after}
use Rattle.lasso.proofs.Places.{after_next, after_last}
use Rattle.paths.specs.declared.lassos.Extent.{Extent}
use Rattle.paths.specs.declared.queues.Origin.{Origin}
use Rattle.paths.specs.declared.queues.Origin.TheVariants.{Starts, Node}
use Rattle.paths.specs.declared.queues.PathQuery.{PathQuery}
use Rattle.records.specs.declared.record.Record.{Record}
use Rattle.paths.specs.Lassos.{Sized, Kept, Written, LassoTold, LassoRefused}
use Rattle.records.specs.Tables.{blank, node_at, letter_at}
use Rattle.paths.specs.Queues.{begins, rooted, graph_for, Missed}
use Rattle.paths.specs.Paths.{StartPath, PathWritten, PathTold, PathRefused}
use Rattle.paths.proofs.Tracing.{edge_as}

-- what is reached from where paths begin is reached
pub reach_of : (g : Graph) (from : Origin) → ((v : ℕ) → begins g from v ≡ true → Reach g v) → (w : ℕ) → Reach (rooted g from) w
    → Reach g w
reach_of g from starts w (begin h) = starts w h
reach_of g from starts w (go {v} r e) = go (reach_of g from starts v r) e

more_of : (g : Graph) (from : Origin) (n : ℕ) → ((v : ℕ) → begins g from v ≡ true → Reach g v) → More (rooted g from) n → More g n
more_of g from n starts more =
    record { at = more.at; apart = more.apart; reached = λ i h. reach_of g from starts (more.at i) (more.reached i h) }

-- no path back
module _ (g : Graph) (v : ℕ) (none : Missed (rooted g (Node v)) (Node v) v) where
  no_path : (u x : ℕ) → Reach (rooted g (Node v)) u → Edge g u x → Path g x v → ⊥
  no_path u x r e here = none.no_edge u r e
  no_path u x r e (next {u = y} f p) = no_path x y (go r e) f p

reach_home : (g : Graph) (v : ℕ) → Reach g v → (u : ℕ) → begins g (Node v) u ≡ true → Reach g u
reach_home g v r u h = subst (λ x. Reach g x) (sym (eqb-true u v h)) r

pub no_turn : (g : Graph) (v : ℕ) → Missed (rooted g (Node v)) (Node v) v → Recurring g v → ⊥
no_turn g v none r = no_path g v none v r.cycle.0 (begin (eq-eqb v v refl)) r.cycle.1 r.cycle.2

pub more_turns : (g : Graph) (v n : ℕ) → Reach g v → More (rooted g (Node v)) n → More g n
more_turns g v n r = more_of g (Node v) n (reach_home g v r)

-- a path back is a cycle
module _ (g : Graph) (v b : ℕ) (node letter : ℕ → ℕ) (bounds : Bounded g) (turn : StartPath (rooted g (Node v)) v b node letter) where
  edge_of : (x l y : ℕ) → g.edge x l y ≡ true → Edge g x y
  edge_of x l y e = (l, (bounds.edges x l y e).1, e)

  path_back : (m k : ℕ) → k + suc m ≡ b → Path g (node k) v
  path_back zero k e = next (edge_of (node k) (letter k) v (turn.ends k (omega arith))) here
  path_back (suc m) k e =
      next (edge_of (node k) (letter k) (node (suc k)) (turn.steps k (omega arith))) (path_back m (suc k) (omega arith))

  home : 0 < b → node 0 ≡ v
  home some = eqb-true (node 0) v (turn.starts.0 some)

  cycle_first : (m : ℕ) → suc m ≡ b → OnCycle g (node 0)
  cycle_first zero e =
      (v, edge_of (node 0) (letter 0) v (turn.ends 0 e), subst (λ x. Path g v x) (sym (home (omega arith))) here)
  cycle_first (suc m) e =
      let p = path_back m 1 (omega arith) in (
        node 1,
        edge_of (node 0) (letter 0) (node 1) (turn.steps 0 (omega arith)),
        subst (λ x. Path g (node 1) x) (sym (home (omega arith))) p,
      )

  turn_cycle : 0 < b → OnCycle g v
  turn_cycle some = subst (λ x. OnCycle g x) (home some) (cycle_first (b - 1) (omega arith))

-- the two paths joined
module _ (g : Graph) (v a b : ℕ) (node1 letter1 node2 letter2 node letter : ℕ → ℕ)
    (stem : StartPath (rooted g Starts) v a node1 letter1) (turn : StartPath (rooted g (Node v)) v b node2 letter2) (some : 0 < b)
    (marked : g.marked v ≡ true)
    (front : (k : ℕ) → k < a → (node k ≡ node1 k) × (letter k ≡ letter1 k))
    (back : (k j : ℕ) → a + j ≡ k → j < b → (node k ≡ node2 j) × (letter k ≡ letter2 j)) where
  seam : node a ≡ v
  seam = (back a 0 (omega arith) some).0 ∙ eqb-true (node2 0) v (turn.starts.0 some)

  first : g.start (node 0) ≡ true
  first =
      ⊎_elim (λ (more : 0 < a). subst (λ x. g.start x ≡ true) (sym (front 0 more).0) (stem.starts.0 more))
      (λ (le : a ≤ 0). let e : a ≡ 0 = omega arith in
      subst (λ x. g.start x ≡ true) (sym (ap node (sym e) ∙ seam)) (stem.starts.1 e))
      (cases_lt 0 a)

  in_stem : (k : ℕ) → k < a → g.edge (node k) (letter k) (node (suc k)) ≡ true
  in_stem k h =
      ⊎_elim
      (λ (more : suc k < a). edge_as g (node1 k) (node k) (letter1 k) (letter k) (node1 (suc k)) (node (suc k))
      (front k h).0 (front k h).1 (front (suc k) more).0 (stem.steps k more))
      (λ (le : a ≤ suc k). let e : suc k ≡ a = omega arith in
      edge_as g (node1 k) (node k) (letter1 k) (letter k) v (node (suc k)) (front k h).0 (front k h).1 (ap node e ∙ seam)
      (stem.ends k e))
      (cases_lt (suc k) a)

  in_turn : (k j : ℕ) → a + j ≡ k → suc j < b → g.edge (node k) (letter k) (node (suc k)) ≡ true
  in_turn k j e h =
      edge_as g (node2 j) (node k) (letter2 j) (letter k) (node2 (suc j)) (node (suc k))
      (back k j e (omega arith)).0 (back k j e (omega arith)).1 (back (suc k) (suc j) (omega arith) h).0 (turn.steps j h)

  at_last : (k j : ℕ) → a + j ≡ k → suc j ≡ b → g.edge (node k) (letter k) (node a) ≡ true
  at_last k j e h =
      edge_as g (node2 j) (node k) (letter2 j) (letter k) v (node a)
      (back k j e (omega arith)).0 (back k j e (omega arith)).1 seam (turn.ends j h)

  step : (k : ℕ) → k < a + b → g.edge (node k) (letter k) (node (after (a + b) a k)) ≡ true
  step k h =
      ⊎_elim
      (λ (inner : suc k < a + b). subst (λ x. g.edge (node k) (letter k) (node x) ≡ true) (sym (after_next (a + b) a k inner))
      (⊎_elim (λ (low : k < a). in_stem k low) (λ (high : a ≤ k). in_turn k (k - a) (omega arith) (omega arith)) (cases_lt k a)))
      (λ (outer : a + b ≤ suc k). subst (λ x. g.edge (node k) (letter k) (node x) ≡ true) (sym (after_last (a + b) a k outer))
      (at_last k (k - a) (omega arith) (omega arith)))
      (cases_lt (suc k) (a + b))

  joined : MarkedLasso g node letter (a + b) a
  joined =
      record {
        loops = omega arith;
        starts = first;
        steps = step;
        passes = (a, omega arith, omega arith, subst (λ x. g.marked x ≡ true) (sym seam) marked);
      }

-- and written one behind the other
module _ (g : Graph) (v n a b : ℕ) (was mid part : List Record) (stem : PathWritten (rooted g Starts) Starts v n was mid a)
    (turn : PathWritten (rooted g (Node v)) (Node v) v n (take (length mid - a) (drop a mid)) part b)
    (marked : g.marked v ≡ true) (room : 2 * n ≤ length was) where
  abbrev all : List Record
  all = stem.records ++ turn.records

  front_at : (k : ℕ) → k < a → get_or all k blank ≡ get_or stem.records k blank
  front_at k h = get_or_append_left stem.records turn.records blank k (omega (arith, stem.count_is))

  back_at : (k j : ℕ) → a + j ≡ k → j < b → get_or all k blank ≡ get_or turn.records j blank
  back_at k j e h =
      let d : k - a ≡ j = omega arith in
      get_or-append_right stem.records turn.records a k blank stem.count_is (omega arith) ∙ ap (λ x. get_or turn.records x blank) d

  some : 0 < b
  some =
      ⊎_elim (λ (more : 0 < b). more)
      (λ (le : b ≤ 0). let e : b ≡ 0 = omega arith in let never = turn.leaves e in absurd (cc)) (cases_lt 0 b)

  front_is : take a mid ≡ stem.records
  front_is =
      ap (take a) stem.changed
      ∙ subst (λ k. take k (stem.records ++ drop a was) ≡ stem.records) stem.count_is (take-append_seam stem.records (drop a was))

  rest_is : drop a mid ≡ drop a was
  rest_is =
      ap (drop a) stem.changed
      ∙ subst (λ k. drop k (stem.records ++ drop a was) ≡ drop a was) stem.count_is (drop-append_seam stem.records (drop a was))

  part_is : part ≡ turn.records ++ drop (a + b) was
  part_is =
      turn.changed
      ∙ ap (λ (xs : List Record). turn.records ++ xs) (ap (drop b) (take_rest mid a ∙ rest_is) ∙ drop-drop b a was)

  nothing : drop (length mid - a) (drop a mid) ≡ []
  nothing = drop_of_length-le (drop a mid) (omega (arith, length-drop a mid))

  made : Written g v n was (take a mid ++ (part ++ drop (length mid - a) (drop a mid))) (record { count = a + b; stem = a })
  made =
      record {
        records = all;
        count = length-append stem.records turn.records ∙ omega (arith, stem.count_is, turn.count_is);
        fits = omega (arith, stem.short, turn.short);
        short = omega (arith, stem.short, turn.short);
        changed =
            ap (λ (xs : List Record). xs ++ (part ++ drop (length mid - a) (drop a mid))) front_is
            ∙ (ap (λ (ys : List Record). stem.records ++ ys)
            (ap (λ (zs : List Record). part ++ zs) nothing ∙ (append-nil part ∙ part_is))
            ∙ sym (append_assoc stem.records turn.records (drop (a + b) was)));
        lasso =
            joined g v a b (node_at stem.records) (letter_at stem.records) (node_at turn.records) (letter_at turn.records)
            (node_at all) (letter_at all)
            stem.path turn.path some marked
            (λ k h. (ap (λ r. r.node) (front_at k h), ap (λ r. r.letter) (front_at k h)))
            (λ k j e h. (ap (λ r. r.node) (back_at k j e h), ap (λ r. r.letter) (back_at k j e h)));
        through = ap (λ r. r.node) (back_at a 0 (omega arith) some) ∙ eqb-true (node_at turn.records 0) v (turn.path.starts.0 some);
        measures =
            λ k h. ⊎_elim
            (λ (low : k < a). ap (λ r. r.measure) (front_at k low) ∙ stem.measures k low)
            (λ (high : a ≤ k). ap (λ r. r.measure) (back_at k (k - a) (omega arith) (omega arith))
            ∙ turn.measures (k - a) (omega arith))
            (cases_lt k a);
      }

  node_recurs : Bounded g → Recurring g v
  node_recurs bounds =
      record {
        reached = stem.reached;
        marked = marked;
        cycle = turn_cycle g v b (node_at turn.records) (letter_at turn.records) bounds turn.path some;
      }

  pub written : Bounded g → Sized n (length was) → (c : Extent) → c ≡ record { count = a + b; stem = a }
      → LassoTold g v n was (take a mid ++ (part ++ drop (length mid - a) (drop a mid))) (Some c)
  written bounds sized c is =
      (sized, node_recurs bounds, subst (λ x. Written g v n was (take a mid ++ (part ++ drop (length mid - a) (drop a mid))) x) (sym is) made)

-- a path that is written leaves what is behind the first n records
pub path_kept : (g : Graph) (from : Origin) (to n : ℕ) (was mid : List Record) (a : ℕ) → PathWritten g from to n was mid a → Kept n was mid
path_kept g from to n was mid a w =
    let front : length w.records ≤ n = omega (arith, w.count_is, w.short) in
    let e : a + (n - a) ≡ n = omega (arith, w.short) in
    let rest = subst (λ k. drop k (w.records ++ drop a was) ≡ drop a was) w.count_is (drop-append_seam w.records (drop a was)) in
    subst (λ k. drop k mid ≡ drop k was) e
    (sym (drop-drop (n - a) a mid) ∙ (ap (drop (n - a)) (ap (drop a) w.changed ∙ rest) ∙ drop-drop (n - a) a was))

-- and what a call that changes nothing behind it leaves is the same
pub unchanged : (a : ℕ) (mid part : List Record) → part ≡ take (length mid - a) (drop a mid)
    → take a mid ++ (part ++ drop (length mid - a) (drop a mid)) ≡ mid
unchanged a mid part same =
    ap (λ (xs : List Record). take a mid ++ (xs ++ drop (length mid - a) (drop a mid))) same
    ∙ (ap (λ (xs : List Record). take a mid ++ xs) (take-append-drop (length mid - a) (drop a mid)) ∙ take-append-drop a mid)

-- no lasso where there is no path back
pub turn_none : (g : Graph) (v n a : ℕ) (was mid part : List Record) → Sized n (length was) → PathWritten (rooted g Starts) Starts v n was mid a
    → PathTold (rooted g (Node v)) (Node v) v n (take (length mid - a) (drop a mid)) part None
    → LassoTold g v n was (take a mid ++ (part ++ drop (length mid - a) (drop a mid))) None
turn_none g v n a was mid part sized stem (none, same) =
    (sized, no_turn g v none, subst (λ (xs : List Record). Kept n was xs) (sym (unchanged a mid part same)) (path_kept g Starts v n was mid a stem))

pub turn_refused : (g : Graph) (v a : ℕ) (before work was mid part : List Record) (e : SearchFault) → Sized (length before) (length was)
    → g.marked v ≡ true
    → PathWritten (rooted g Starts) Starts v (length before) was mid a
    → PathRefused (rooted g (Node v)) (length before) (take (length mid - a) (drop a mid)) part e
    → LassoRefused g v before work was (take a mid ++ (part ++ drop (length mid - a) (drop a mid))) e
turn_refused g v a before work was mid part Table sized marked stem refused = absurd refused
turn_refused g v a before work was mid part Full sized marked stem (more, same) = (
  sized,
  marked,
  more_turns g v (length before) stem.reached more,
  subst (λ (xs : List Record). Kept (length before) was xs) (sym (unchanged a mid part same))
      (path_kept g Starts v (length before) was mid a stem),
)

-- what the two queries ask for
module _ {M : Type 0} (graph : M → List ℕ → ℕ → Graph) (i : ImplicitGraph M) (v n : ℕ) (there : PathQuery M)
    (is : there ≡ record { graph = i; from = Starts; to = v }) where
  pub stem_told : (was table : List Record) (r : Option ℕ) (a : ℕ) → r ≡ Some a
      → PathTold (graph_for graph there) there.from there.to n was table r
      → PathWritten (rooted (graph_of graph i) Starts) Starts v n was table a
  stem_told was table r a some told =
      let written : PathTold (graph_for graph there) there.from there.to n was table (Some a) =
      subst (λ x. PathTold (graph_for graph there) there.from there.to n was table x) some told in
      subst (λ (q : PathQuery M). PathWritten (graph_for graph q) q.from q.to n was table a) is written

  module _ (back : PathQuery M) (turned : back ≡ record { graph = there.graph; from = Node there.to; to = there.to }) (k : ℕ)
      (same : k ≡ n) where
    turn_is : back ≡ record { graph = i; from = Node v; to = v }
    turn_is = turned ∙ ap (λ (q : PathQuery M). record { graph = q.graph; from = Node q.to; to = q.to }) is

    pub turn_told : (was table : List Record) (r s : Option ℕ) → r ≡ s → PathTold (graph_for graph back) back.from back.to k was table r
        → PathTold (rooted (graph_of graph i) (Node v)) (Node v) v n was table s
    turn_told was table r s e told =
        let moved : PathTold (graph_for graph back) back.from back.to n was table s =
        subst (λ x. PathTold (graph_for graph back) back.from back.to n was table x) e
        (subst (λ x. PathTold (graph_for graph back) back.from back.to x was table r) same told) in
        subst (λ (q : PathQuery M). PathTold (graph_for graph q) q.from q.to n was table s) turn_is moved

    pub turn_stopped : (was table : List Record) (e : SearchFault) → PathRefused (graph_for graph back) k was table e
        → PathRefused (rooted (graph_of graph i) (Node v)) n was table e
    turn_stopped was table e refused =
        let moved : PathRefused (graph_for graph back) n was table e =
        subst (λ x. PathRefused (graph_for graph back) x was table e) same refused in
        subst (λ (q : PathQuery M). PathRefused (graph_for graph q) n was table e) turn_is moved
