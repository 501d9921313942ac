-- The path to a node is written backwards, and then turned round.
use Rattle.std.proofs.Common.{◌≡◌, ℕ, zero, suc, ◌+◌, ◌-◌, ◌<◌, ◌≤◌, true, List, length, get_or, set, take, drop, ◌++◌, reverse, sym, refl, ap, ◌∙◌, subst, ⊎_elim, arith}
use Rattle.std.proofs.lemmas.Bool.{cases_lt}
use Rattle.std.proofs.lemmas.List.{get_or-set_same, get_or-set_other, drop-set-lt, drop-drop, get_or-reverse, length-reverse, get_or-take, length-take-le}
use Rattle.graph.specs.Graphs.{Graph}
use Rattle.records.specs.declared.record.Record.{Record}
use Rattle.records.specs.Tables.{blank, node_at, letter_at, measure_at}
use Rattle.paths.specs.declared.queues.Origin.{Origin}
use Rattle.paths.specs.Queues.{Link, IsQueued, Leaves}
use Rattle.paths.specs.Paths.{behind, Traced, StartPath, PathWritten}
use Rattle.graph.specs.Walks.{Reach}
use Rattle.paths.proofs.Queueing.{link_more, link_as}

-- the edges behind a record are written, and it leads to the node of the last one
pub record Tracing (g : Graph) (to count : ℕ) (r : Record) (s : ℕ) (work was table : List Record) : Type 0 where
  pub link : Link g (node_at work) s r.letter r.measure (behind to (node_at table) count)
  pub steps : (k : ℕ) → k < count → g.edge (node_at table k) (letter_at table k) (behind to (node_at table) k) ≡ true
  pub measures : (k : ℕ) → k < count → measure_at table k ≡ 0
  pub rest : drop count table ≡ drop count was

behind_same : (to : ℕ) (f f' : ℕ → ℕ) (n : ℕ) → ((k : ℕ) → k < n → f' k ≡ f k) → (k : ℕ) → k ≤ n → behind to f' k ≡ behind to f k
behind_same to f f' n same zero h = refl
behind_same to f f' n same (suc k) h = same k (omega arith)

pub edge_as : (g : Graph) (v v' l l' w w' : ℕ) → v' ≡ v → l' ≡ l → w' ≡ w → g.edge v l w ≡ true → g.edge v' l' w' ≡ true
edge_as g v v' l l' w w' ev el ew e =
    subst (λ x. g.edge x l' w' ≡ true) (sym ev) (subst (λ x. g.edge v x w' ≡ true) (sym el)
    (subst (λ x. g.edge v l x ≡ true) (sym ew) e))

drop_suc : (n : ℕ) (xs ys : List Record) → drop n xs ≡ drop n ys → drop (suc n) xs ≡ drop (suc n) ys
drop_suc n xs ys e =
    let s : n + 1 ≡ suc n = omega arith in
    subst (λ k. drop k xs ≡ drop k ys) s (sym (drop-drop 1 n xs) ∙ (ap (λ l. drop 1 l) e ∙ drop-drop 1 n ys))

pub tracing_begin : (g : Graph) (to : ℕ) (r : Record) (s : ℕ) (work table : List Record)
    → Link g (node_at work) s r.letter r.measure to → Tracing g to 0 r s work table table
tracing_begin g to r s work table link =
    record { link = link; steps = λ k h. absurd (omega arith); measures = λ k h. absurd (omega arith); rest = refl }

-- one edge more is written
module _ (g : Graph) (to count p : ℕ) (r : Record) (s : ℕ) (work was table : List Record) (q : IsQueued g s work)
    (is : r.measure ≡ suc p)
    (inside : p < s) (room : count < length table) (t : Tracing g to count r s work was table) where
  abbrev written : Record
  written = record { node = node_at work p; letter = r.letter; measure = 0 }

  low : (k : ℕ) → k < count → get_or (set table count written) k blank ≡ get_or table k blank
  low k h = get_or-set_other table count k written blank (λ e. omega arith)

  here : get_or (set table count written) count blank ≡ written
  here = get_or-set_same table count written blank room

  behind_low : (k : ℕ) → k ≤ count → behind to (node_at (set table count written)) k ≡ behind to (node_at table) k
  behind_low = behind_same to (node_at table) (node_at (set table count written)) count (λ k h. ap (λ x. x.node) (low k h))

  edge_here : g.edge (node_at work p) r.letter (behind to (node_at table) count) ≡ true
  edge_here =
      ⊎_elim (λ (root, start). absurd (omega arith))
      (λ (p', is', lt, e). let same : p' ≡ p = omega arith in
      subst (λ x. g.edge (node_at work x) r.letter (behind to (node_at table) count) ≡ true) same e)
      t.link

  tracing_suc : Tracing g to (suc count) (get_or work p blank) s work was (set table count written)
  tracing_suc =
      record {
        link =
            link_as g (node_at work) s (letter_at work p) (letter_at work p) (measure_at work p) (measure_at work p)
            (node_at work p) (node_at (set table count written) count)
            refl refl (ap (λ x. x.node) here)
            (link_more g (node_at work) (node_at work) p s (letter_at work p) (measure_at work p) (node_at work p) (omega arith)
            (λ i h. refl) (q.back p inside));
        steps =
            λ k h. ⊎_elim
            (λ (less : k < count). edge_as g (node_at table k) (node_at (set table count written) k) (letter_at table k)
            (letter_at (set table count written) k)
            (behind to (node_at table) k) (behind to (node_at (set table count written)) k)
            (ap (λ x. x.node) (low k less)) (ap (λ x. x.letter) (low k less)) (behind_low k (omega arith)) (t.steps k less))
            (λ (le : count ≤ k). let e : count ≡ k = omega arith in
            subst (λ k. g.edge (node_at (set table count written) k) (letter_at (set table count written) k)
            (behind to (node_at (set table count written)) k) ≡ true) e
            (edge_as g (node_at work p) (node_at (set table count written) count) r.letter
            (letter_at (set table count written) count)
            (behind to (node_at table) count) (behind to (node_at (set table count written)) count)
            (ap (λ x. x.node) here) (ap (λ x. x.letter) here) (behind_low count (omega arith)) edge_here))
            (cases_lt k count);
        measures =
            λ k h. ⊎_elim
            (λ (less : k < count). ap (λ x. x.measure) (low k less) ∙ t.measures k less)
            (λ (le : count ≤ k). let e : count ≡ k = omega arith in subst (λ k. measure_at (set table count written) k ≡ 0) e
            (ap (λ x. x.measure) here))
            (cases_lt k count);
        rest =
            drop-set-lt (suc count) table count written (omega arith) ∙ drop_suc count table was t.rest;
      }

  pub tracing_more : (w : Record) → w ≡ written → Tracing g to (count + 1) (get_or work p blank) s work was (set table count w)
  tracing_more w same =
      let e : suc count ≡ count + 1 = omega arith in
      subst (λ x. Tracing g to (count + 1) (get_or work p blank) s work was (set table count x)) (sym same)
      (subst (λ n. Tracing g to n (get_or work p blank) s work was (set table count written)) e tracing_suc)

-- it ends at a start
pub traced : (g : Graph) (to count : ℕ) (r : Record) (s : ℕ) (work was table : List Record) → r.measure ≡ 0
    → Tracing g to count r s work was table → Traced g to count was table
traced g to count r s work was table root t =
    record {
      starts = ⊎_elim (λ (zero_is, start). start) (λ (p, is, lt, e). absurd (omega arith)) t.link;
      steps = t.steps;
      measures = t.measures;
      rest = t.rest;
    }

-- the records turned round
module _ (g : Graph) (to count : ℕ) (was table : List Record) (inside : count ≤ length table)
    (t : Traced g to count was table) where
  abbrev pub turned : List Record
  turned = reverse (take count table)

  turned_len : length (take count table) ≡ count
  turned_len = length-take-le count table inside

  turned_at : (i k : ℕ) → i + suc k ≡ count → get_or turned i blank ≡ get_or table k blank
  turned_at i k e =
      let back : length (take count table) - 1 - i ≡ k = omega (arith, turned_len) in
      get_or-reverse (take count table) i blank (omega (arith, turned_len))
      ∙ (ap (λ x. get_or (take count table) x blank) back ∙ get_or-take count table k blank (omega arith))

  pub turned_measures : (i : ℕ) → i < count → measure_at turned i ≡ 0
  turned_measures i h = ap (λ x. x.measure) (turned_at i (count - suc i) (omega arith)) ∙ t.measures (count - suc i) (omega arith)

  pub turned_path : StartPath g to count (node_at turned) (letter_at turned)
  turned_path =
      record {
        starts = (
          λ some. let e : suc (count - 1) ≡ count = omega arith in
              subst (λ v. g.start v ≡ true) (sym (ap (λ x. x.node) (turned_at 0 (count - 1) (omega arith))))
              (subst (λ n. g.start (behind to (node_at table) n) ≡ true) (sym e) t.starts),
          λ none. subst (λ n. g.start (behind to (node_at table) n) ≡ true) none t.starts,
        );
        steps =
            λ i h. let k = count - suc (suc i) in
            edge_as g (node_at table (suc k)) (node_at turned i) (letter_at table (suc k)) (letter_at turned i)
            (node_at table k) (node_at turned (suc i))
            (ap (λ x. x.node) (turned_at i (suc k) (omega arith))) (ap (λ x. x.letter) (turned_at i (suc k) (omega arith)))
            (ap (λ x. x.node) (turned_at (suc i) k (omega arith))) (t.steps (suc k) (omega arith));
        ends =
            λ i h. edge_as g (node_at table 0) (node_at turned i) (letter_at table 0) (letter_at turned i) to to
            (ap (λ x. x.node) (turned_at i 0 (omega arith))) (ap (λ x. x.letter) (turned_at i 0 (omega arith))) refl
            (t.steps 0 (omega arith));
      }

-- a path with an edge left has some edge written
pub some_left : (m n : ℕ) → (0 < m → 0 < n) → n ≡ 0 → m ≡ 0
some_left m n some none =
    ⊎_elim (λ (more : 0 < m). let less = some more in absurd (omega arith)) (λ (le : m ≤ 0). omega arith) (cases_lt 0 m)

-- and so a path is written
pub path_written : (g : Graph) (from : Origin) (to n count : ℕ) (was mid table : List Record) → Traced g to count was mid
    → table ≡ reverse (take count mid) ++ drop count mid → Reach g to → Leaves from count → count ≤ n → n ≤ length was
    → length mid ≡ length was
    → PathWritten g from to n was table count
path_written g from to n count was mid table traced is reached leaves short room len =
    let inside : count ≤ length mid = omega arith in
    record {
      records = reverse (take count mid);
      count_is = length-reverse (take count mid) ∙ length-take-le count mid inside;
      short = short;
      changed = is ∙ ap (λ (ys : List Record). reverse (take count mid) ++ ys) traced.rest;
      path = turned_path g to count was mid inside traced;
      measures = turned_measures g to count was mid inside traced;
      reached = reached;
      leaves = leaves;
    }
