-- An explored place is left for its parent.
use Rattle.std.proofs.Common.{◌≡◌, ℕ, suc, ◌<◌, ◌≤◌, min, List, length, sym, refl, ◌∙◌, subst, inl, inr, ⊎_elim, arith}
use Rattle.graph.specs.Graphs.{Graph, Bounded}
use Rattle.graph.specs.Walks.{Path}
use Rattle.graph.proofs.Paths.{path_join}
use Rattle.records.specs.declared.record.Record.{Record}
use Rattle.search.specs.Progress.{Progress}
use Rattle.search.specs.Changes.{Changed}
use Rattle.search.specs.Searches.{Searching, Explored, Stepped, GoesOn}
use Rattle.records.specs.Tables.{node_at, letter_at}
use Rattle.search.specs.Links.{low_at, up_at}
use Rattle.search.specs.Trees.{Under, Tree}
use Rattle.numbers.specs.Puts.{put}
use Rattle.search.proofs.Finished.{done_quiet, keeps_nodes}
use Rattle.search.proofs.Moves.{fun_at, quiet_join, changed_quiet, changed_low, held_as, tree_changed, min_cases, searching_resumed, resumed_quiet}
use Rattle.numbers.proofs.Puts.{put_same, put_other}
use Rattle.search.proofs.Pushes.{tree_leave}
use Rattle.search.proofs.Steps.{tree_seen}

-- the parent of the current place, on a stack of more than one
pub parent_of : (g : Graph) (s top cur from : ℕ) (was : List Record) → Searching g s top cur from was → 0 < cur
    → Under g (letter_at was) (up_at was cur) cur
parent_of g s top cur from was q pos = (q.tree.under cur (inl refl) pos q.tree.inside).0

module _ (g : Graph) (s top cur x u l from : ℕ) (was mid : List Record) (q : Searching g s top cur x was)
    (explored : g.letters ≤ letter_at was cur) (falls : low_at was cur < cur) (up_is : u ≡ up_at was cur) (low-is : l ≡ low_at was cur)
    (len : length mid ≡ length was) (c : Changed u (letter_at was u) (min (low_at was u) l) was mid) where
  under : Under g (letter_at was) u cur
  under = subst (λ y. Under g (letter_at was) y cur) (sym up_is) (parent_of g s top cur x was q (omega arith))

  m : ℕ
  m = min (low_at was u) l

  leads : Path g (node_at was u) (node_at was m)
  unfolding m
  leads =
      ⊎_elim
      (λ (e : min (low_at was u) l ≡ low_at was u). subst (λ y. Path g (node_at was u) (node_at was y)) (sym e) (q.tree.back u (omega (arith, under.below, q.tree.inside))).1)
      (λ p.
      subst (λ y. Path g (node_at was u) (node_at was y)) (sym (p.0 ∙ low-is))
      (path_join g (node_at was (low_at was cur)) (q.tree.down u cur (inr under.left) (omega (arith, under.below)) q.tree.inside)
      (q.tree.back cur q.tree.inside).1))
      (min_cases (low_at was u) l)

  lowered : Tree g s top (length was) cur (node_at was) (put (letter_at was) u (letter_at was u)) (put (low_at was) u m) (up_at was) (put q.at u (q.at u))
  unfolding m
  lowered =
      tree_seen g s top (length was) cur u (letter_at was u) m (q.at u) (node_at was) (letter_at was) (low_at was) (up_at was) q.at q.tree
      (inr under.left) (inr (omega (arith, put_same (letter_at was) u (letter_at was u), under.left))) (omega (arith, under.below, q.tree.inside))
      (inr refl) (omega arith) leads (λ w seen. inl seen)

  in_mid : Tree g s top (length mid) cur (node_at mid) (letter_at mid) (low_at mid) (up_at mid) (put q.at u (q.at u))
  unfolding m
  in_mid = tree_changed g s top cur u (letter_at was u) m (put q.at u (q.at u)) was mid len c lowered

  pub searching_left : Searching g s top u (suc (node_at was cur)) mid
  unfolding m
  searching_left =
      let below = under.below in
      let ups : up_at mid cur ≡ u = fun_at c.ups cur ∙ sym up_is in
      let low-cur : low_at mid cur ≡ low_at was cur = fun_at c.lows cur ∙ put_other (low_at was) u m cur (λ e. omega arith) in
      let low-u : low_at mid u ≡ m = changed_low u (letter_at was u) m was mid c in
      let letter-cur : letter_at mid cur ≡ letter_at was cur = fun_at c.letters cur ∙ put_other (letter_at was) u (letter_at was u) cur (λ e. omega arith) in
      let t =
      tree_leave g s top (length mid) cur (node_at mid) (letter_at mid) (low_at mid) (up_at mid) (put q.at u (q.at u)) in_mid (omega arith) (omega arith) (omega arith)
      (subst (λ y. low_at mid y ≤ low_at mid cur) (sym ups) (omega arith)) in
      record {
        at = put q.at u (q.at u);
        held = held_as g s top was mid len c.nodes q.held;
        tree = subst (λ y. Tree g s top (length mid) y (node_at mid) (letter_at mid) (low_at mid) (up_at mid) (put q.at u (q.at u))) ups t;
        frontier =
            put_same q.at u (q.at u)
            ∙ subst (λ y. q.at y ≡ suc (node_at was cur)) (sym up_is) (q.tree.under cur (inl refl) (omega arith) q.tree.inside).1;
      }

pub step_left : (g : Graph) (p p' q : Progress) (u l : ℕ) (was mid work : List Record) → Bounded g
    → (e : Explored g p.size p.top p.cur p.found was) → low_at was p.cur < p.cur → u ≡ up_at was p.cur → l ≡ low_at was p.cur
    → length mid ≡ length was → Changed u (letter_at was u) (min (low_at was u) l) was mid
    → p' ≡ p → length work ≡ length mid → GoesOn u (node_at was p.cur) p' mid work q
    → Stepped g p was work q
step_left g p p' q u l was mid work b e falls up_is low-is len c stays len' (is, r) =
    let s = e.going in
    let below : u < p.cur = subst (λ y. y < p.cur) (sym up_is) (parent_of g p.size p.top p.cur e.from was s (omega arith)).below in
    let left = searching_left g p.size p.top p.cur e.from u l q.from was mid s e.explored falls up_is low-is len c in
    let on = searching_resumed g p.size p.top u (node_at was p.cur) q.from mid work b left len' r in
    let quiet = quiet_join u was mid work (changed_quiet u (letter_at was u) (min (low_at was u) l) was mid c) (resumed_quiet u (node_at was p.cur) q.from mid work r) in
    let made : Stepped g p was work (record { size = p.size; top = p.top; cur = u; from = q.from; found = p.found }) =
    record {
      going =
          record {
            held = on.held;
            done = done_quiet g u p.top p.found was work (omega (arith, s.tree.inside, s.held.stack)) (len' ∙ len) quiet e.done;
            busy = λ some. on;
            idle = λ z. absurd (omega (arith, s.tree.inside));
          };
      keeps = keeps_nodes p.size p.top was work (len' ∙ len) quiet.nodes;
      less = omega arith;
    } in
    let here = subst (λ y. q ≡ record { size = y.size; top = y.top; cur = u; from = q.from; found = y.found }) stays is in
    subst (λ y. Stepped g p was work y) (sym here) made
