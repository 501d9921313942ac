-- A search from a start, and from every start.
use Rattle.std.proofs.Common.{◌≡◌, ℕ, ◌+◌, ◌-◌, ◌<◌, ◌≤◌, true, List, length, Some, None, Option, sym, refl, ap, ◌∙◌, subst, inr, ⊎_elim, arith}
use Rattle.records.specs.declared.faults.SearchFault.{SearchFault}
use Rattle.records.specs.declared.faults.SearchFault.TheVariants.{Table, Full}
use Rattle.graph.specs.Graphs.{Graph}
use Rattle.graph.specs.Walks.{Edge, Reach, begin, go, Measure, More}
use Rattle.graph.proofs.Counting.{not_more}
use Rattle.graph.proofs.Paths.{no_measure}
use Rattle.records.specs.declared.record.Record.{Record}
use Rattle.search.specs.Progress.{Progress}
use Rattle.records.specs.WorkTables.{Settled}
use Rattle.graph.specs.Ascending.{Passed, Next}
use Rattle.search.specs.Searches.{Going, Holds, Entered, Crowded, TooMany, Visited, Swept}
use Rattle.search.specs.Surveys.{Collected, Told}
use Rattle.records.specs.Tables.{node_at, letter_at, measure_at, At}
use Rattle.search.specs.Links.{low_at, up_at}
use Rattle.search.specs.Trees.{Used, DoneTold, Tree}
use Rattle.numbers.specs.Puts.{put}
use Rattle.search.proofs.Entering.{crowded, going_pushed, tree_start}

-- with an empty stack, what is not done the table does not have
pub not_done : (s top v : ℕ) (work : List Record) → s ≡ 0 → (At (node_at work) top (length work) v → ⊥)
    → (i : ℕ) → Used s top (length work) i → node_at work i ≡ v → ⊥
not_done s top v work empty none i (lt, used) is =
    ⊎_elim (λ (a : i < s). absurd (omega arith)) (λ (b : top ≤ i). none (i, b, lt, is)) used

-- the start is pushed onto the empty stack
pub begin_start : (g : Graph) (p : Progress) (v : ℕ) (was work : List Record) (q : Progress) → length was ≤ 65536
    → Going g p was → p.size ≡ 0 → g.start v ≡ true
    → ((i : ℕ) → Used p.size p.top (length was) i → node_at was i ≡ v → ⊥) → Entered p v was work q
    → Going g q work
begin_start g p v was work q few going empty start new (room, is, same) =
    let t : Tree g (p.size + 1) p.top (length was) p.size (put (node_at was) p.size v) (put (letter_at was) p.size 0) (put (low_at was) p.size p.size) (put (up_at was) p.size p.cur) (λ u. 0) =
    subst (λ c. Tree g (p.size + 1) p.top (length was) p.size (put (node_at was) p.size v) (put (letter_at was) p.size 0) (put (low_at was) p.size p.size) (put (up_at was) p.size c) (λ u. 0))
    (sym (going.idle empty))
    (subst (λ s. Tree g (s + 1) p.top (length was) s (put (node_at was) s v) (put (letter_at was) s 0) (put (low_at was) s s) (put (up_at was) s 0) (λ u. 0))
    (sym empty) (tree_start g p.top (length was) v (node_at was) (letter_at was) (low_at was) (up_at was))) in
    subst (λ y. Going g y work) (sym is)
    (subst (λ y. Going g (record { size = p.size + 1; top = p.top; cur = p.size; from = 0; found = p.found }) y) (sym same)
    (going_pushed g p v was room going.held.table few going.held going.done (begin start) new (λ u. 0) refl t))

-- or there is no room for it
pub begin_crowded : (g : Graph) (p : Progress) (v : ℕ) (was : List Record) (fault : SearchFault) → Going g p was → g.start v ≡ true
    → ((i : ℕ) → Used p.size p.top (length was) i → node_at was i ≡ v → ⊥) → Crowded p fault → TooMany g (length was) fault
begin_crowded g p v was Full going start new full = crowded g p.size p.top (length was) v (node_at was) going.held full (begin start) new
begin_crowded g p v was Table going start new never = never

-- with an empty stack, what the table has is done
holds_done : (s top v : ℕ) (work : List Record) → s ≡ 0 → Holds s top work v → At (node_at work) top (length work) v
holds_done s top v work empty (i, used, is) =
    (i, ⊎_elim (λ (a : i < s). absurd (omega arith)) (λ (b : top ≤ i). b) used.1, used.0, is)

done_holds : (s top v : ℕ) (work : List Record) → At (node_at work) top (length work) v → Holds s top work v
done_holds s top v work (i, lo, hi, is) = (i, (hi, inr lo), is)

-- the starts that are passed are done
pub starts_more : (g : Graph) (p q : Progress) (from after : Option ℕ) (start : ℕ) (was work : List Record) → Next g.start from (Some start) after
    → Visited g p start was work q
    → ((v : ℕ) → Passed from v → g.start v ≡ true → At (node_at was) p.top (length was) v)
    → (v : ℕ) → Passed after v → g.start v ≡ true → At (node_at work) q.top (length work) v
starts_more g p q from after start was work (is_start, up_to, more, last) visit old v passed is =
    holds_done q.size q.top v work visit.rested.empty
    (⊎_elim (λ before. visit.rested.keeps v (done_holds p.size p.top v was (old v before is)))
    (λ (e : v ≡ start). subst (λ y. Holds q.size q.top work y) (sym e) visit.holds) (up_to v is passed))

-- what can be reached is done
all_done : (g : Graph) (q : Progress) (work : List Record) → Swept g work q → (v : ℕ) → Reach g v → At (node_at work) q.top (length work) v
all_done g q work swept v (begin s) = swept.starts v s
all_done g q work swept w (go {v} r e) =
    let (j, lo, hi, is) = all_done g q work swept v r in
    swept.going.done.closed j w lo hi (subst (λ y. Edge g y w) (sym is) e)

module _ (g : Graph) (q : Progress) (mid work : List Record) (len : length work ≡ length mid) (swept : Swept g mid q)
    (settled : Settled q.top mid work) where
  node_is : (i : ℕ) → i < length mid - q.top → node_at work i ≡ node_at mid (q.top + i)
  node_is i h = ap (λ r. r.node) (settled.front i h)

  used : (i : ℕ) → i < length mid - q.top → Used q.size q.top (length mid) (q.top + i)
  used i h = (omega arith, inr (omega arith))

  pub collected : Collected g (length mid - q.top) work
  collected =
      record {
        fits = omega arith;
        apart =
            λ i j hi hj e. let same = swept.going.held.apart (q.top + i) (q.top + j) (used i hi) (used j hj) (sym (node_is i hi) ∙ (e ∙ node_is j hj)) in
            omega arith;
        reached = λ i h. subst (λ y. Reach g y) (sym (node_is i h)) (swept.going.held.reached (q.top + i) (used i h));
        whole =
            λ v r. let (j, lo, hi, is) = all_done g q mid swept v r in
            let h : j - q.top < length mid - q.top = omega arith in
            let back : q.top + (j - q.top) ≡ j = omega arith in
            (j - q.top, h, node_is (j - q.top) h ∙ (ap (node_at mid) back ∙ is));
      }

  told_from : (f : Option ℕ) → DoneTold g q.top (length mid) (node_at mid) (measure_at mid) f → Told g (length mid - q.top) work f
  told_from None measures = (
    λ (v, c). let (j, lo, hi, is) = all_done g q mid swept v c.reached in
        no_measure g v (measure_at mid j) c.marked c.cycle (subst (λ y. Measure g y (measure_at mid j)) is (measures j lo hi)),
    λ i h. subst (λ y. Measure g y (measure_at work i)) (sym (node_is i h))
        (subst (λ y. Measure g (node_at mid (q.top + i)) y) (sym (ap (λ r. r.measure) (settled.front i h))) (measures (q.top + i) (omega arith) (omega arith))),
  )
  told_from (Some v) told = told

  pub told : Told g (length mid - q.top) work q.found
  told = told_from q.found swept.going.done.told

  pub room : More g (length work) → ⊥
  room = not_more g (length work) (length mid - q.top) (node_at work) (omega arith) collected.whole
