-- The queue of a search grows.
use Rattle.std.proofs.Common.{◌≡◌, ℕ, suc, ◌+◌, ◌<◌, ◌≤◌, ◌≢◌, Bool, true, ◌⊎◌, List, length, set, Some, Option, Ok, Err, Result, MatchResult, sym, refl, ap, ◌∙◌, subst, inl, inr, ⊎_elim, arith}
use Rattle.std.proofs.lemmas.Bool.{cases_lt}
use Rattle.graph.specs.Graphs.{Graph}
use Rattle.graph.specs.Walks.{Edge, Reach, begin, go, More, ByLetters}
use Rattle.records.specs.declared.record.Record.{Record}
use Rattle.graph.specs.Ascending.{Passed, Next}
use Rattle.records.specs.Tables.{node_at, letter_at, measure_at, At}
use Rattle.numbers.specs.Puts.{put}
use Rattle.paths.specs.declared.queues.Origin.{Origin}
use Rattle.paths.specs.declared.queues.Origin.TheVariants.{Node}
use Rattle.paths.specs.declared.queues.Stop.{Stop}
use Rattle.paths.specs.declared.queues.Stop.TheVariants.{Full, Found}
use Rattle.paths.specs.Queues.{Link, Queued, IsQueued, Leads, Added, NoRoom, Halted, Longer, Taken, Begun, Missed}
use Rattle.records.proofs.Columns.{column_set}
use Rattle.graph.proofs.Counting.{one_more}
use Rattle.numbers.proofs.Puts.{by_place, put_same, put_other}

-- in a longer queue a record leads to the same node
pub link_more : (g : Graph) (node node' : ℕ → ℕ) (s t l m v : ℕ) → s ≤ t → ((i : ℕ) → i < s → node' i ≡ node i)
    → Link g node s l m v → Link g node' t l m v
link_more g node node' s t l m v le same =
    ⊎_elim (λ root. inl root) (λ (p, is, lt, e). inr (p, is, omega arith, subst (λ x. g.edge x l v ≡ true) (sym (same p lt)) e))

pub link_as : (g : Graph) (node : ℕ → ℕ) (s l l' m m' v v' : ℕ) → l' ≡ l → m' ≡ m → v' ≡ v → Link g node s l m v
    → Link g node s l' m' v'
link_as g node s l l' m m' v v' el em ev link =
    subst (λ x. Link g node s x m' v') (sym el) (subst (λ x. Link g node s l x v') (sym em)
    (subst (λ x. Link g node s l m x) (sym ev) link))

-- a new node at the end of the queue
module _ (g : Graph) (s l m v : ℕ) (node letter up : ℕ → ℕ) (q : Queued g s node letter up) (new : At node 0 s v → ⊥)
    (reached : Reach g v) (link : Link g node s l m v) where
  not_new : (i : ℕ) → i < s → node i ≡ v → ⊥
  not_new i h e = new (i, omega arith, h, e)

  queued_push : Queued g (suc s) (put node s v) (put letter s l) (put up s m)
  queued_push =
      record {
        apart =
            λ i j. by_place (λ i. i < suc s → j < suc s → put node s v i ≡ put node s v j → i ≡ j) s i
            (λ hi. by_place (λ j. j < suc s → put node s v s ≡ put node s v j → s ≡ j) s j (λ hj e. refl)
            (λ ne hj e. absurd (not_new j (omega arith) (sym (put_other node s v j ne) ∙ (sym e ∙ put_same node s v)))))
            (λ ni hi. by_place (λ j. j < suc s → put node s v i ≡ put node s v j → i ≡ j) s j
            (λ hj e. absurd (not_new i (omega arith) (sym (put_other node s v i ni) ∙ (e ∙ put_same node s v))))
            (λ nj hj e. q.apart i j (omega arith) (omega arith)
            (sym (put_other node s v i ni) ∙ (e ∙ put_other node s v j nj))));
        reached =
            λ i. by_place (λ i. i < suc s → Reach g (put node s v i)) s i
            (λ h. subst (λ x. Reach g x) (sym (put_same node s v)) reached)
            (λ ne h. subst (λ x. Reach g x) (sym (put_other node s v i ne)) (q.reached i (omega arith)));
        back =
            λ i. by_place (λ i. i < suc s → Link g (put node s v) i (put letter s l i) (put up s m i) (put node s v i)) s i
            (λ h. link_as g (put node s v) s l (put letter s l s) m (put up s m s) v (put node s v s)
            (put_same letter s l) (put_same up s m) (put_same node s v)
            (link_more g node (put node s v) s s l m v (omega arith) (λ p lt. put_other node s v p (λ e. omega arith)) link))
            (λ ne h. link_as g (put node s v) i (letter i) (put letter s l i) (up i) (put up s m i) (node i) (put node s v i)
            (put_other letter s l i ne) (put_other up s m i ne) (put_other node s v i ne)
            (link_more g node (put node s v) i i (letter i) (up i) (node i) (omega arith)
            (λ p lt. put_other node s v p (λ e. omega arith))
            (q.back i (omega arith))));
      }

-- a record is added
pub record Grown (g : Graph) (v s : ℕ) (was : List Record) (t : ℕ) (work : List Record) : Type 0 where
  pub queued : IsQueued g t work
  pub longer : Longer s was t work
  pub has : At (node_at work) 0 t v

grown_push : (g : Graph) (r : Record) (s : ℕ) (was : List Record) → IsQueued g s was → s < length was
    → (At (node_at was) 0 s r.node → ⊥) → Reach g r.node → Link g (node_at was) s r.letter r.measure r.node
    → Grown g r.node s was (suc s) (set was s r)
grown_push g r s was q room new reached link =
    let nodes : node_at (set was s r) ≡ put (node_at was) s r.node = column_set (λ x. x.node) was s r room in
    let letters : letter_at (set was s r) ≡ put (letter_at was) s r.letter = column_set (λ x. x.letter) was s r room in
    let ups : measure_at (set was s r) ≡ put (measure_at was) s r.measure = column_set (λ x. x.measure) was s r room in
    let pushed = queued_push g s r.letter r.measure r.node (node_at was) (letter_at was) (measure_at was) q new reached link in
    record {
      queued =
          subst (λ f. Queued g (suc s) f (letter_at (set was s r)) (measure_at (set was s r))) (sym nodes)
          (subst (λ f. Queued g (suc s) (put (node_at was) s r.node) f (measure_at (set was s r))) (sym letters)
          (subst (λ f. Queued g (suc s) (put (node_at was) s r.node) (put (letter_at was) s r.letter) f) (sym ups) pushed));
      longer =
          record {
            more = omega arith;
            same = λ i h. ap (λ (f : ℕ → ℕ). f i) nodes ∙ put_other (node_at was) s r.node i (λ e. omega arith);
          };
      has = (s, omega arith, omega arith, ap (λ (f : ℕ → ℕ). f s) nodes ∙ put_same (node_at was) s r.node);
    }

pub grown : (g : Graph) (r : Record) (s : ℕ) (was : List Record) (t : ℕ) (work : List Record) → IsQueued g s was
    → Reach g r.node → Link g (node_at was) s r.letter r.measure r.node → Added r s was t work → Grown g r.node s was t work
grown g r s was t work q reached link =
    ⊎_elim
    (λ (is, same, has).
    subst (λ x. Grown g r.node s was x work) (sym is)
    (subst (λ y. Grown g r.node s was s y) (sym same)
    (record { queued = q; longer = record { more = omega arith; same = λ i h. refl }; has = has })))
    (λ (is, same, room, new).
    subst (λ x. Grown g r.node s was x work) (sym is)
    (subst (λ y. Grown g r.node s was (suc s) y) (sym same) (grown_push g r s was q room new reached link)))

-- there is no room for a new node
pub queue_crowded : (g : Graph) (s v : ℕ) (work : List Record) → IsQueued g s work → s ≡ length work
    → (At (node_at work) 0 s v → ⊥) → Reach g v → More g (length work)
queue_crowded g s v work q full new reached =
    one_more g (length work) v (node_at work) (λ i j hi hj. q.apart i j (omega arith) (omega arith)) (λ i hi. q.reached i (omega arith)) reached
    (λ i hi e. new (i, omega arith, omega arith, e))

-- so the search halts
pub no_room : (g : Graph) (from : Origin) (to : ℕ) (r : Record) (s : ℕ) (was : List Record) (t : ℕ) (work : List Record)
    (stop : Stop)
    → IsQueued g s was → Reach g r.node → length work ≡ length was → NoRoom r s was stop → Halted g from to t work stop
no_room g from to r s was t work Full q reached len (full, new) =
    subst (λ n. More g n) (sym len) (queue_crowded g s r.node was q full new reached)
no_room g from to r s was t work (Found last) q reached len never = absurd never

-- nothing is asked for
pub taken_none : (g : Graph) (to : ℕ) (P : ℕ → Type 0) (s : ℕ) (work : List Record) → IsQueued g s work → ((v : ℕ) → P v → ⊥)
    → Taken g to P s work s work
taken_none g to P s work q none =
    record { queued = q; longer = record { more = omega arith; same = λ i h. refl }; all = λ v p. absurd (none v p) }

pub at_longer : (s : ℕ) (was : List Record) (t : ℕ) (work : List Record) (v : ℕ) → Longer s was t work
    → At (node_at was) 0 s v → At (node_at work) 0 t v
at_longer s was t work v longer (i, lo, hi, is) = (i, lo, omega (arith, longer.more), longer.same i hi ∙ is)

-- one after the other
pub taken_join : (g : Graph) (to : ℕ) (P Q R : ℕ → Type 0) (s : ℕ) (was : List Record) (t : ℕ) (mid : List Record) (u : ℕ)
    (work : List Record)
    → Taken g to P s was t mid → Taken g to Q t mid u work → ((v : ℕ) → R v → P v ⊎ Q v) → Taken g to R s was u work
taken_join g to P Q R s was t mid u work p q split =
    record {
      queued = q.queued;
      longer =
          record {
            more = omega (arith, p.longer.more, q.longer.more);
            same = λ i h. q.longer.same i (omega (arith, p.longer.more)) ∙ p.longer.same i h;
          };
      all =
          λ v r. ⊎_elim
          (λ a. ((p.all v a).0, at_longer t mid u work v q.longer (p.all v a).1))
          (λ b. q.all v b) (split v r);
    }

pub leads_more : (g : Graph) (P : ℕ → Bool) (by : Record) (s : ℕ) (was : List Record) (t : ℕ) (work : List Record)
    → Leads g P by s was → Longer s was t work → Leads g P by t work
leads_more g P by s was t work leads longer v is =
    let (reached, link) = leads v is in
    (reached, link_more g (node_at was) (node_at work) s t by.letter by.measure v longer.more longer.same link)

-- the next node is taken
pub taken_next : (g : Graph) (to : ℕ) (P : ℕ → Bool) (by : Record) (from after : Option ℕ) (next : ℕ) (s : ℕ) (was : List Record)
    (t : ℕ) (mid : List Record) (u : ℕ) (work : List Record)
    → Leads g P by s was → Next P from (Some next) after → (next ≢ to)
    → Taken g to (λ v. (P v ≡ true) × Passed from v) s was t mid
    → Added (record { node = next; letter = by.letter; measure = by.measure }) t mid u work
    → Taken g to (λ v. (P v ≡ true) × Passed after v) s was u work
taken_next g to P by from after next s was t mid u work leads (is, up_to, more, last) other taken added =
    let (reached, link) = leads_more g P by s was t mid leads taken.longer next is in
    let r : Record = record { node = next; letter = by.letter; measure = by.measure } in
    let one = grown g r t mid u work taken.queued reached link added in
    taken_join g to (λ v. (P v ≡ true) × Passed from v) (λ v. v ≡ next) (λ v. (P v ≡ true) × Passed after v) s was t mid u work taken
    (record {
      queued = one.queued;
      longer = one.longer;
      all = λ v e. (λ same. other (sym e ∙ same), subst (λ x. At (node_at work) 0 u x) (sym e) one.has);
    })
    (λ v (p, passed). ⊎_elim (λ before. inl (p, before)) (λ e. inr e) (up_to v p passed))

pub taken_all : (g : Graph) (to : ℕ) (P Q : ℕ → Type 0) (s : ℕ) (was : List Record) (t : ℕ) (work : List Record)
    → Taken g to P s was t work → ((v : ℕ) → Q v → P v) → Taken g to Q s was t work
taken_all g to P Q s was t work p less =
    record { queued = p.queued; longer = p.longer; all = λ v q. p.all v (less v q) }

-- the nodes that edges with one letter more lead to
pub taken_letter : (g : Graph) (to v l s : ℕ) (was : List Record) (t : ℕ) (mid : List Record) (u : ℕ) (work : List Record)
    → Taken g to (ByLetters g v l) s was t mid → Taken g to (λ w. g.edge v l w ≡ true) t mid u work
    → Taken g to (ByLetters g v (l + 1)) s was u work
taken_letter g to v l s was t mid u work old new =
    taken_join g to (ByLetters g v l) (λ w. g.edge v l w ≡ true) (ByLetters g v (l + 1)) s was t mid u work old new
    (λ w (k, lt, e). ⊎_elim (λ (less : k < l). inl (k, less, e))
    (λ (le : l ≤ k). let same : k ≡ l = omega arith in inr (subst (λ x. g.edge v x w ≡ true) same e)) (cases_lt k l))

-- how the edges with a letter lead on from a place
pub leads_letter : (g : Graph) (place v l : ℕ) (by : Record) (s : ℕ) (work : List Record) → IsQueued g s work → place < s
    → node_at work place ≡ v → l < g.letters → by.letter ≡ l → by.measure ≡ suc place → Leads g (g.edge v l) by s work
leads_letter g place v l by s work q lt is few letter measure w e = (
  go (subst (λ x. Reach g x) is (q.reached place lt)) (l, few, e),
  inr (place, measure, lt, subst (λ x. g.edge x by.letter w ≡ true) (sym is) (subst (λ x. g.edge v x w ≡ true) (sym letter) e)),
)

-- the nodes where paths begin are there
pub begun_starts : (g : Graph) (from : Origin) (to s : ℕ) (was : List Record) (t : ℕ) (work : List Record)
    → Taken g to (λ v. g.start v ≡ true) s was t work → Begun g from to t work
begun_starts g from to s was t work taken =
    record { queued = taken.queued; starts = λ v h. (taken.all v h).1; other = λ all h. (taken.all to h).0 refl }

pub begun_node : (g : Graph) (from : Origin) (to : ℕ) (r : Record) (s : ℕ) (was : List Record) (t : ℕ) (work : List Record)
    → from ≡ Node r.node → ((v : ℕ) → g.start v ≡ true → v ≡ r.node) → Grown g r.node s was t work → Begun g from to t work
begun_node g from to r s was t work is alone one =
    record {
      queued = one.queued;
      starts = λ v h. subst (λ x. At (node_at work) 0 t x) (sym (alone v h)) one.has;
      other = λ all h. cc;
    }

pub begun_more : (g : Graph) (from : Origin) (to : ℕ) (P : ℕ → Type 0) (s : ℕ) (was : List Record) (t : ℕ) (work : List Record)
    → Begun g from to s was → Taken g to P s was t work → Begun g from to t work
begun_more g from to P s was t work begun taken =
    record { queued = taken.queued; starts = λ v h. at_longer s was t work v taken.longer (begun.starts v h); other = begun.other }

-- an empty queue
pub queued_none : (g : Graph) (s : ℕ) (work : List Record) → s ≡ 0 → IsQueued g s work
queued_none g s work empty =
    record {
      apart = λ i j hi hj e. absurd (omega arith);
      reached = λ i h. absurd (omega arith);
      back = λ i h. absurd (omega arith);
    }

-- the edges from the places below lead into the queue, and none to the node that is looked for
abbrev pub Closed : Graph → ℕ → ℕ → ℕ → List Record → Type 0
Closed g to place s work = (i w : ℕ) → i < place → Edge g (node_at work i) w → (w ≢ to) × At (node_at work) 0 s w

pub closed_more : (g : Graph) (to place s : ℕ) (was : List Record) (t : ℕ) (work : List Record) → place < s
    → Closed g to place s was
    → Taken g to (Edge g (node_at was place)) s was t work → Closed g to (place + 1) t work
closed_more g to place s was t work lt closed taken i w h e =
    let edge : Edge g (node_at was i) w = subst (λ x. Edge g x w) (taken.longer.same i (omega arith)) e in
    ⊎_elim
    (λ (low : i < place). let (other, at) = closed i w low edge in (other, at_longer s was t work w taken.longer at))
    (λ (high : place ≤ i). let same : i ≡ place = omega arith in taken.all w (subst (λ x. Edge g (node_at was x) w) same edge))
    (cases_lt i place)

-- at the end of the queue it has all that can be reached
module _ (g : Graph) (from : Origin) (to s : ℕ) (work : List Record) (begun : Begun g from to s work)
    (closed : Closed g to s s work) where
  all_met : (v : ℕ) → Reach g v → At (node_at work) 0 s v
  all_met v (begin h) = begun.starts v h
  all_met w (go {v} r e) =
      let (i, lo, hi, is) = all_met v r in
      (closed i w hi (subst (λ x. Edge g x w) (sym is) e)).1

  pub missed : Missed g from to
  missed =
      record {
        no_edge =
            λ u r e. let (i, lo, hi, is) = all_met u r in
            (closed i to hi (subst (λ x. Edge g x to) (sym is) e)).0 refl;
        no_start = begun.other;
      }

-- what follows from a result
pub match_both : {E : Type 0} (A B : Type 0) (H K : E → Type 0) (r : Result (Unit {0}) E) → (A → B) → ((e : E) → H e → K e)
    → MatchResult r (λ x. A) H → MatchResult r (λ x. B) K
match_both A B H K (Ok x) f h a = f a
match_both A B H K (Err e) f h b = h e b
