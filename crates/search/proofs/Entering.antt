-- A new node is entered, or there is no room for it.
use Rattle.std.proofs.Common.{◌≡◌, ℕ, suc, ◌+◌, ◌*◌, ◌/◌, ◌%◌, ◌<◌, ◌≤◌, List, length, set, Some, sym, refl, ap, ◌∙◌, subst, inl, inr, ⊎_elim, arith, length-set}
use Rattle.std.proofs.lemmas.Bool.{cases_lt}
use Rattle.graph.specs.Graphs.{Graph}
use Rattle.numbers.specs.Least.{Least}
use Rattle.graph.specs.Walks.{Edge, Reach, go, Path, here, More}
use Rattle.graph.proofs.Counting.{one_more}
use Rattle.records.specs.declared.record.Record.{Record}
use Rattle.search.specs.Progress.{Progress}
use Rattle.search.specs.Searches.{Searching, Going, Fresh, Entered, Keeps, Stepped}
use Rattle.records.specs.Tables.{node_at, letter_at, measure_at}
use Rattle.search.specs.Links.{low_at, up_at}
use Rattle.search.specs.Trees.{Used, Upto, Held, Done, Tree}
use Rattle.numbers.specs.Puts.{put}
use Rattle.records.proofs.Columns.{column_set}
use Rattle.search.proofs.Halves.{low_of, up_of}
use Rattle.search.proofs.Finished.{done_as}
use Rattle.search.proofs.Moves.{fun_at, upto_next}
use Rattle.numbers.proofs.Puts.{by_place, put_same, put_other}
use Rattle.search.proofs.Pushes.{tree_push}

-- the table is full, and one node more is reachable
module _ (g : Graph) (s top n v : ℕ) (node : ℕ → ℕ) (h : Held g s top n node) (full : s ≡ top) (reached : Reach g v)
    (new : (i : ℕ) → Used s top n i → node i ≡ v → ⊥) where
  all_used : (i : ℕ) → i < n → Used s top n i
  all_used i lt = (lt, ⊎_elim (λ (a : i < s). inl a) (λ (b : s ≤ i). inr (omega arith)) (cases_lt i s))

  pub crowded : More g n
  crowded =
      one_more g n v node (λ i j hi hj. h.apart i j (all_used i hi) (all_used j hj)) (λ i hi. h.reached i (all_used i hi)) reached
      (λ i hi. new i (all_used i hi))

-- a new node at the end of the stack
module _ (g : Graph) (s top n v : ℕ) (node : ℕ → ℕ) (h : Held g s top n node) (room : s < top) (reached : Reach g v)
    (new : (i : ℕ) → Used s top n i → node i ≡ v → ⊥) where
  was_used : (i : ℕ) → (i ≡ s → ⊥) → Used (s + 1) top n i → Used s top n i
  was_used i ne u = (u.0, ⊎_elim (λ (a : i < s + 1). inl (omega arith)) (λ (b : top ≤ i). inr b) u.1)

  pub held_push : Held g (s + 1) top n (put node s v)
  held_push =
      record {
        stack = omega arith;
        table = h.table;
        apart =
            λ i j. by_place (λ i. Used (s + 1) top n i → Used (s + 1) top n j → put node s v i ≡ put node s v j → i ≡ j) s i
            (λ ui. by_place (λ j. Used (s + 1) top n j → put node s v s ≡ put node s v j → s ≡ j) s j (λ uj e. refl)
            (λ ne uj e. absurd (new j (was_used j ne uj) (sym (put_other node s v j ne) ∙ (sym e ∙ put_same node s v)))))
            (λ ni ui. by_place (λ j. Used (s + 1) top n j → put node s v i ≡ put node s v j → i ≡ j) s j
            (λ uj e. absurd (new i (was_used i ni ui) (sym (put_other node s v i ni) ∙ (e ∙ put_same node s v))))
            (λ nj uj e. h.apart i j (was_used i ni ui) (was_used j nj uj)
            (sym (put_other node s v i ni) ∙ (e ∙ put_other node s v j nj))));
        reached =
            λ i. by_place (λ i. Used (s + 1) top n i → Reach g (put node s v i)) s i
            (λ u. subst (λ x. Reach g x) (sym (put_same node s v)) reached)
            (λ ne u. subst (λ x. Reach g x) (sym (put_other node s v i ne)) (h.reached i (was_used i ne u)));
      }

abbrev pushed : Progress → ℕ → List Record → List Record
pushed p v was = set was p.size (record { node = v; letter = 0; measure = p.cur * 65536 + p.size })

-- the progress after a push
abbrev entered : Progress → Progress
entered p = record { size = p.size + 1; top = p.top; cur = p.size; from = 0; found = p.found }

module _ (g : Graph) (p : Progress) (v : ℕ) (was : List Record) (room : p.size < p.top) (table : p.top ≤ length was)
    (few : length was ≤ 65536) where
  inside : p.size < length was
  inside = omega arith

  nodes_pushed : node_at (pushed p v was) ≡ put (node_at was) p.size v
  nodes_pushed = column_set (λ r. r.node) was p.size (record { node = v; letter = 0; measure = p.cur * 65536 + p.size }) inside

  measures_pushed : measure_at (pushed p v was) ≡ put (measure_at was) p.size (p.cur * 65536 + p.size)
  measures_pushed = column_set (λ r. r.measure) was p.size (record { node = v; letter = 0; measure = p.cur * 65536 + p.size }) inside

  tree_pushed : (at : ℕ → ℕ)
      → Tree g (p.size + 1) p.top (length was) p.size (put (node_at was) p.size v) (put (letter_at was) p.size 0)
      (put (low_at was) p.size p.size) (put (up_at was) p.size p.cur) at
      → Tree g (p.size + 1) p.top (length (pushed p v was)) p.size (node_at (pushed p v was)) (letter_at (pushed p v was))
      (low_at (pushed p v was)) (up_at (pushed p v was)) at
  tree_pushed at t =
      let r : Record = record { node = v; letter = 0; measure = p.cur * 65536 + p.size } in
      let letters : letter_at (pushed p v was) ≡ put (letter_at was) p.size 0 = column_set (λ r. r.letter) was p.size r inside in
      let lows : low_at (pushed p v was) ≡ put (low_at was) p.size p.size =
      column_set (λ r. r.measure % 65536) was p.size r inside
      ∙ ap (λ x. put (low_at was) p.size x) (low_of p.cur p.size (omega arith)) in
      let ups : up_at (pushed p v was) ≡ put (up_at was) p.size p.cur =
      column_set (λ r. r.measure / 65536) was p.size r inside
      ∙ ap (λ x. put (up_at was) p.size x) (up_of p.cur p.size (omega arith)) in
      subst (λ n. Tree g (p.size + 1) p.top n p.size (node_at (pushed p v was)) (letter_at (pushed p v was)) (low_at (pushed p v was)) (up_at (pushed p v was)) at)
      (sym (length-set was p.size r))
      (subst (λ f. Tree g (p.size + 1) p.top (length was) p.size f (letter_at (pushed p v was)) (low_at (pushed p v was)) (up_at (pushed p v was)) at) (sym nodes_pushed)
      (subst (λ f. Tree g (p.size + 1) p.top (length was) p.size (put (node_at was) p.size v) f (low_at (pushed p v was)) (up_at (pushed p v was)) at) (sym letters)
      (subst (λ f. Tree g (p.size + 1) p.top (length was) p.size (put (node_at was) p.size v) (put (letter_at was) p.size 0) f (up_at (pushed p v was)) at) (sym lows)
      (subst (λ f. Tree g (p.size + 1) p.top (length was) p.size (put (node_at was) p.size v) (put (letter_at was) p.size 0) (put (low_at was) p.size p.size) f at) (sym ups) t))))

  module _ (held : Held g p.size p.top (length was) (node_at was))
      (done : Done g p.top (length was) (node_at was) (measure_at was) p.found)
      (reached : Reach g v) (new : (i : ℕ) → Used p.size p.top (length was) i → node_at was i ≡ v → ⊥) where
    pub going_pushed : (at : ℕ → ℕ) → at p.size ≡ 0
        → Tree g (p.size + 1) p.top (length was) p.size (put (node_at was) p.size v) (put (letter_at was) p.size 0)
        (put (low_at was) p.size p.size) (put (up_at was) p.size p.cur) at
        → Going g (entered p) (pushed p v was)
    going_pushed at begins t =
        let len : length was ≡ length (pushed p v was) = sym (length-set was p.size (record { node = v; letter = 0; measure = p.cur * 65536 + p.size })) in
        let h : Held g (p.size + 1) p.top (length (pushed p v was)) (node_at (pushed p v was)) =
        subst (λ n. Held g (p.size + 1) p.top n (node_at (pushed p v was))) len
        (subst (λ f. Held g (p.size + 1) p.top (length was) f) (sym nodes_pushed)
        (held_push g p.size p.top (length was) v (node_at was) held room reached new)) in
        record {
          held = h;
          done =
              subst (λ n. Done g p.top n (node_at (pushed p v was)) (measure_at (pushed p v was)) p.found) len
              (done_as g p.top (length was) (node_at was) (measure_at was) (node_at (pushed p v was)) (measure_at (pushed p v was))
              (λ k t h. fun_at nodes_pushed k ∙ put_other (node_at was) p.size v k (λ e. omega arith))
              (λ k t h. fun_at measures_pushed k ∙ put_other (measure_at was) p.size (p.cur * 65536 + p.size) k (λ e. omega arith))
              p.found done);
          busy = λ some. record { at = at; held = h; tree = tree_pushed at t; frontier = begins };
          idle = λ e. absurd (omega arith);
        }

    pub keeps_pushed : Keeps p.size p.top was (p.size + 1) p.top (pushed p v was)
    keeps_pushed w (i, used, is) =
        let r : Record = record { node = v; letter = 0; measure = p.cur * 65536 + p.size } in (
          i,
          (omega (arith, used.0, length-set was p.size r), ⊎_elim (λ (a : i < p.size). inl (omega arith)) (λ (b : p.top ≤ i). inr b) used.1),
          fun_at nodes_pushed i ∙ (put_other (node_at was) p.size v i (λ e. new_place i used e) ∙ is),
        )
      where
        new_place : (i : ℕ) → Used p.size p.top (length was) i → i ≡ p.size → ⊥
        new_place i used e = ⊎_elim (λ (a : i < p.size). omega arith) (λ (b : p.top ≤ i). omega arith) used.1

-- the current place leads to a new node
pub step_crowded : (g : Graph) (p : Progress) (x v : ℕ) (was : List Record) → Searching g p.size p.top p.cur x was
    → Fresh g p.size p.top p.cur x was v → p.size ≡ p.top → More g (length was)
step_crowded g p x v was q fresh full =
    crowded g p.size p.top (length was) v (node_at was) q.held full
    (go (q.held.reached p.cur (omega (arith, q.tree.inside, q.held.stack, q.held.table), inl q.tree.inside))
    (letter_at was p.cur, fresh.left, fresh.least.1))
    fresh.new

pub step_entered : (g : Graph) (p : Progress) (x v : ℕ) (was work : List Record) (after : Progress) → length was ≤ 65536
    → Searching g p.size p.top p.cur x was → Done g p.top (length was) (node_at was) (measure_at was) p.found
    → Fresh g p.size p.top p.cur x was v → Entered p v was work after → Stepped g p was work after
step_entered g p x v was work after few q done fresh (room, is, same) =
    let edge : Edge g (node_at was p.cur) v = (letter_at was p.cur, fresh.left, fresh.least.1) in
    let reached = go (q.held.reached p.cur (omega (arith, q.tree.inside, q.held.stack, q.held.table), inl q.tree.inside)) edge in
    let t =
    tree_push g p.size p.top (length was) p.cur v (node_at was) (letter_at was) (low_at was) (up_at was) q.at q.tree room fresh.left edge
    (λ w seen. upto_next g (node_at was p.cur) (letter_at was p.cur) (q.at p.cur) v w
    (subst (λ y. Least (g.edge (node_at was p.cur) (letter_at was p.cur)) y (Some v)) (sym q.frontier) fresh.least) seen) in
    let made : Stepped g p was (pushed p v was) (entered p) =
    record {
      going =
          going_pushed g p v was room q.held.table few q.held done reached fresh.new (put (put q.at p.cur (suc v)) p.size 0)
          (put_same (put q.at p.cur (suc v)) p.size 0) t;
      keeps = keeps_pushed g p v was room q.held.table few q.held done reached fresh.new;
      less = omega (arith, q.held.table, q.tree.inside);
    } in
    subst (λ y. Stepped g p was work y) (sym is) (subst (λ y. Stepped g p was y (entered p)) (sym same) made)

-- a start begins a stack
module _ (g : Graph) (top n v : ℕ) (node letter low up : ℕ → ℕ) where
  none_looked : (u w : ℕ) → Upto g u 0 0 w → ⊥
  none_looked u w seen = ⊎_elim (λ h. omega arith) (λ h. omega (arith, h.1)) seen.3

  pub tree_start : Tree g (0 + 1) top n 0 (put node 0 v) (put letter 0 0) (put low 0 0) (put up 0 0) (λ u. 0)
  tree_start =
      record {
        inside = omega arith;
        down = λ a u o au h. let e : a ≡ u = omega arith in subst (λ y. Path g (put node 0 v a) (put node 0 v y)) e here;
        back =
            λ u h. let e : 0 ≡ u = omega arith in
            subst (λ y. (put low 0 0 y ≤ y) × Path g (put node 0 v y) (put node 0 v (put low 0 0 y))) e (omega arith, here);
        shut = λ u h shut. absurd (shut (inl (omega arith)));
        last = λ u a h. absurd (omega arith);
        cut =
            λ c oc hc all u cu hu. let e : 0 ≡ u = omega arith in (
              omega arith,
              λ w seen. absurd (none_looked (put node 0 v 0) w
                  (subst (λ y. Upto g (put node 0 v y) (put letter 0 0 y) 0 w) (sym e) seen)),
            );
        under = λ u o pos h. absurd (omega arith);
      }
