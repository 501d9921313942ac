-- A component is retired, and its root's parent goes on.
use Rattle.std.proofs.Common.{◌≡◌, ℕ, zero, suc, ◌+◌, ◌-◌, ◌/◌, ◌%◌, ◌<◌, ◌≤◌, List, length, Some, None, Option, Ok, Err, Result, sym, refl, ap, ◌∙◌, subst, inl, inr, ⊎_elim, arith}
use Rattle.std.proofs.lemmas.Bool.{cases_lt}
use Rattle.std.specs.Result.{result_err, result_unwrap_or}
use Rattle.graph.specs.Graphs.{Graph, Bounded}
use Rattle.records.specs.declared.record.Record.{Record}
use Rattle.search.specs.Progress.{Progress}
use Rattle.records.specs.WorkTables.{Risen}
use Rattle.search.specs.Searches.{Searching, Holds, Stepped, GoesOn}
use Rattle.records.specs.Tables.{node_at, letter_at, measure_at}
use Rattle.search.specs.Links.{low_at, up_at}
use Rattle.search.specs.Trees.{Used, Held, Done, DoneTold, Tree}
use Rattle.search.specs.Weights.{Rooted, Assessed, Assessment, ComponentTold, Retired, HasRetired}
use Rattle.search.proofs.Finished.{done_quiet, keeps_nodes}
use Rattle.search.proofs.Leaving.{parent_of}
use Rattle.search.proofs.Moves.{searching_resumed, resumed_quiet}
use Rattle.search.proofs.Pops.{Shifted, held_pop, done_pop, told_pop, tree_pop}

module _ (g : Graph) (s top cur d : ℕ) (found : Option ℕ) (was work : List Record) (m : ℕ) (f : Option ℕ)
    (here : Rooted g s top cur found was) (worth : Assessed g s top cur found was m f)
    (risen : Risen s top cur m was work) (gap : s + d ≡ top) (d-is : top - s ≡ d) where
  q : Searching g s top cur here.here.from was
  q = here.here.going

  -- the stack that is left
  below_kept : (k : ℕ) → k < cur → (node_at work k ≡ node_at was k) × (letter_at work k ≡ letter_at was k) × (measure_at work k ≡ measure_at was k)
  below_kept k h = risen.below k (omega (arith, h, gap, here.here.going.tree.inside))

  shift : Shifted s top (length was) cur d (node_at was) (node_at work)
  shift =
      record {
        below = λ k h. (below_kept k h).0;
        moved = λ k lo hi. subst (λ y. node_at work (k + y) ≡ node_at was k) d-is (risen.moved k lo hi).0;
        done = λ k lo hi. (risen.done k lo hi).0;
      }

  given : (k : ℕ) → cur ≤ k → k < s → measure_at work (k + d) ≡ m
  given k lo hi = subst (λ y. measure_at work (k + y) ≡ m) d-is (risen.moved k lo hi).2

  kept : (i : ℕ) → top ≤ i → i < length was → measure_at work i ≡ measure_at was i
  kept i lo hi = (risen.done i lo hi).2

  pub retired_held : Held g cur (cur + d) (length was) (node_at work)
  retired_held = held_pop g s top (length was) cur d (node_at was) (node_at work) gap here.here.going.tree.inside shift here.here.going.held

  told_by : (f : Option ℕ) → ComponentTold g cur s was found m f → DoneTold g (cur + d) (length was) (node_at work) (measure_at work) f
  told_by None (none, measures) =
      told_pop g s top (length was) cur d (node_at was) (node_at work) gap here.here.going.tree.inside shift here.here.going.held
      (letter_at was) (low_at was) (up_at was) here.here.going.at (measure_at was) (measure_at work) m found
      here.here.going.tree here.here.explored here.root here.here.done kept given
      (subst (λ f. DoneTold g top (length was) (node_at was) (measure_at was) f) none here.here.done.told) measures
  told_by (Some v) told = told

  pub retired_done : Done g (cur + d) (length was) (node_at work) (measure_at work) f
  retired_done =
      done_pop g s top (length was) cur d (node_at was) (node_at work) gap here.here.going.tree.inside shift here.here.going.held
      (letter_at was) (low_at was) (up_at was) here.here.going.at (measure_at was) (measure_at work) m found
      here.here.going.tree here.here.explored here.root here.here.done kept given
      f (omega (arith, worth.fits, here.here.going.tree.inside, here.here.going.held.table)) (told_by f worth.told)

  pub retired_tree : zero < cur
      → Tree g cur (cur + d) (length was) (up_at was cur) (node_at work) (letter_at work) (low_at work) (up_at work) here.here.going.at
  retired_tree pos =
      tree_pop g s top (length was) cur d (node_at was) (node_at work) gap here.here.going.tree.inside shift here.here.going.held
      (letter_at was) (low_at was) (up_at was) here.here.going.at (measure_at was) (measure_at work) m found
      here.here.going.tree here.here.explored here.root here.here.done kept given
      pos (letter_at work) (low_at work) (up_at work)
      (λ k h. (below_kept k h).1) (λ k h. ap (λ y. y % 65536) (below_kept k h).2) (λ k h. ap (λ y. y / 65536) (below_kept k h).2)

  pub retired_keeps : (v : ℕ) → Holds s top was v → (i : ℕ) × Used cur (cur + d) (length was) i × (node_at work i ≡ v)
  retired_keeps v (i, used, is) =
      let table = here.here.going.held.table in
      ⊎_elim
      (λ (lt : i < s).
      ⊎_elim (λ (a : i < cur). (i, (used.0, inl a), shift.below i a ∙ is))
      (λ (a : cur ≤ i). (i + d, (omega arith, inr (omega arith)), shift.moved i a lt ∙ is)) (cases_lt i cur))
      (λ (hi : top ≤ i). (i, (used.0, inr (omega (arith, here.here.going.tree.inside))), shift.done i hi used.0 ∙ is)) used.1

pub retired : (g : Graph) (s top cur : ℕ) (found : Option ℕ) (was work : List Record) (m : ℕ) (f : Option ℕ)
    → length work ≡ length was → Rooted g s top cur found was → Assessed g s top cur found was m f → Risen s top cur m was work
    → Retired g s top cur was work f
retired g s top cur found was work m f len here worth risen =
    let stack = here.here.going.held.stack in
    let inside = here.here.going.tree.inside in
    let gap : s + (top - s) ≡ top = omega arith in
    let new : cur + (top - s) ≡ top - (s - cur) = omega arith in
    let held : Held g cur (top - (s - cur)) (length work) (node_at work) =
    subst (λ n. Held g cur (top - (s - cur)) n (node_at work)) (sym len)
    (subst (λ t. Held g cur t (length was) (node_at work)) new (retired_held g s top cur (top - s) found was work m f here worth risen gap refl)) in
    record {
      held = held;
      done =
          subst (λ n. Done g (top - (s - cur)) n (node_at work) (measure_at work) f) (sym len)
          (subst (λ t. Done g t (length was) (node_at work) (measure_at work) f) new
          (retired_done g s top cur (top - s) found was work m f here worth risen gap refl));
      busy =
          λ pos. record {
            at = here.here.going.at;
            held = held;
            tree =
                subst (λ n. Tree g cur (top - (s - cur)) n (up_at was cur) (node_at work) (letter_at work) (low_at work) (up_at work) here.here.going.at) (sym len)
                (subst (λ t. Tree g cur t (length was) (up_at was cur) (node_at work) (letter_at work) (low_at work) (up_at work) here.here.going.at) new
                (retired_tree g s top cur (top - s) found was work m f here worth risen gap refl pos));
            frontier = (here.here.going.tree.under cur (inl refl) pos inside).1;
          };
      parent =
          λ pos. let u = parent_of g s top cur here.here.from was here.here.going pos in
          (u.below, omega (arith, (risen.below (up_at was cur) (omega (arith, u.below, inside, stack))).1, u.left));
      keeps =
          λ v h. let k = retired_keeps g s top cur (top - s) found was work m f here worth risen gap refl v h in
          (k.0, (omega (arith, k.1.0), ⊎_elim (λ (a : k.0 < cur). inl a) (λ (b : cur + (top - s) ≤ k.0). inr (omega arith)) k.1.1), k.2);
    }

-- by what it is worth
pub retired_worth : (g : Graph) (s top cur : ℕ) (found : Option ℕ) (was work : List Record) (worth : Result ℕ ℕ)
    → length work ≡ length was → Rooted g s top cur found was → Assessment g s top cur found was worth
    → Risen s top cur (result_unwrap_or worth 0) was work → Retired g s top cur was work (result_err worth)
retired_worth g s top cur found was work (Ok m) = retired g s top cur found was work m None
retired_worth g s top cur found was work (Err v) = retired g s top cur found was work 0 (Some v)

-- the component was the whole stack
pub step_emptied : (g : Graph) (p q : Progress) (was work : List Record) → p.cur ≡ 0 → 0 < p.size → p.size ≤ p.top
    → HasRetired p q → Retired g p.size p.top p.cur was work q.found → Stepped g p was work q
step_emptied g p q was work zero-cur some fits is t =
    let made : Stepped g p was work (record { size = p.cur; top = p.top - (p.size - p.cur); cur = p.cur; from = p.from; found = q.found }) =
    record {
      going = record { held = t.held; done = t.done; busy = λ some. absurd (omega arith); idle = λ z. zero-cur };
      keeps = t.keeps;
      less = omega arith;
    } in
    subst (λ y. Stepped g p was work y) (sym is) made

-- its root's parent goes on
pub step_retired : (g : Graph) (p p' q : Progress) (u : ℕ) (was mid work : List Record) → Bounded g → 0 < p.cur → p.cur < p.size → p.size ≤ p.top
    → u ≡ up_at was p.cur → HasRetired p p' → Retired g p.size p.top p.cur was mid p'.found
    → length work ≡ length mid → GoesOn u (node_at was p.cur) p' mid work q → Stepped g p was work q
step_retired g p p' q u was mid work b pos inside fits up_is retired t len (is, resumed) =
    let top = p.top - (p.size - p.cur) in
    let below : u < p.cur = subst (λ y. y < p.cur) (sym up_is) (t.parent pos).0 in
    let going : Searching g p.cur top u (suc (node_at was p.cur)) mid =
    subst (λ y. Searching g p.cur top y (suc (node_at was p.cur)) mid) (sym up_is) (t.busy pos) in
    let on = searching_resumed g p.cur top u (node_at was p.cur) q.from mid work b going len resumed in
    let quiet = resumed_quiet u (node_at was p.cur) q.from mid work resumed in
    let made : Stepped g p was work (record { size = p.cur; top = top; cur = u; from = q.from; found = p'.found }) =
    record {
      going =
          record {
            held = on.held;
            done = done_quiet g u top p'.found mid work (omega (arith, t.held.stack)) len quiet t.done;
            busy = λ some. on;
            idle = λ z. absurd (omega arith);
          };
      keeps = λ v h. keeps_nodes p.cur top mid work len quiet.nodes v (t.keeps v h);
      less = omega arith;
    } in
    let here = subst (λ y. q ≡ record { size = y.size; top = y.top; cur = u; from = q.from; found = y.found }) retired is in
    subst (λ y. Stepped g p was work y) (sym here) made
