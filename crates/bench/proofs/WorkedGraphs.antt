-- The ranked graphs of the examples' charts, as they were worked out apart from the definitions: each holds, since one test of it
-- passes, which computes over the definitions.
use Rattle.std.proofs.Common.{◌≡◌, ℕ, zero, suc, ◌+◌, ◌*◌, ◌^◌, ◌<◌, ◌≤◌, Bool, true, false, cond, not, ◌&&◌, ◌||◌, eqb, leb, ltb, List, [], ◌∷◌, length, get_or, slice_index, All, ⊎_elim, sym, refl, subst, ◌∙◌, arith}
use Rattle.std.specs.Prelude.{slice_index_or, ◌↔◌}
use Rattle.std.specs.Bool.{MatchBool}
use Rattle.std.specs.List.{list_all}
use Rattle.std.specs.Bool.{beq}
use Rattle.std.specs.Cmp.{booleans_Decides}
use Rattle.std.proofs.lemmas.Bool.{and_parts, both_ways, cases_order, eq-eqb, eqb-true, leb-true, ltb-true, not-true, or_cases}
use Rattle.std.proofs.lemmas.List.Sums.{AllPass-from_list_all}
use Rattle.numbers.specs.Below.{all_below, any_below}
use Rattle.numbers.proofs.Below.{all_at, any_at, any_from}
use Rattle.chart.specs.Automata.{Automaton, Limits}
use Rattle.chart.specs.Fits.{fitted_limits}
use Rattle.chart.specs.Kinds.{rowwise}
use Rattle.graph.specs.Graphs.{Graph}
use Rattle.graph.specs.Walks.{Edge, MarkedCycle, Reach, begin, go, here, next}
use Rattle.graph.specs.Witnesses.{FallingMeasures}
use Rattle.rank.specs.Containment.{Charts, Included, Differs}
use Rattle.rank.specs.Layout.{fields, flag, held, parts}
use Rattle.rank.specs.Ranked.{is_number, ranked_graph}
use Rattle.rank.proofs.Deciding.{cycles_decide, measures_tell}
use Rattle.rank.proofs.Implied.{implied}
use Rattle.rank.proofs.Fields.{fields_small}
use Rattle.rank.proofs.Numbers.{flag_small, node_fits}
use Rattle.rank.proofs.Reaching.{edge_joined, joined, joined_edge}
use Rattle.rank.proofs.Tests.{edge_holds, number_holds, start_number}
use Rattle.bench.specs.Examples.{TableChart, means, marked_loop, unmarked_loop, no_start, still}

-- a node, a measure for it, and where its edges lead
pub record Entry : Type 0 where
  pub node : ℕ
  pub measure : ℕ
  pub next : List ℕ

abbrev pub entry : ℕ → ℕ → List ℕ → Entry
entry node measure after = record { node = node; measure = measure; next = after }

pub record Worked : Type 0 where
  pub duty : TableChart
  pub rule : TableChart
  -- the nodes that can be reached
  pub entries : List Entry
  -- whether a marked node lies on a cycle, so that the duty takes a word that the rule does not; if not, the measures fall
  pub cycle : Bool

abbrev pub worked : List Worked
worked =
    record {
      duty = marked_loop;
      rule = unmarked_loop;
      entries =
          entry 12288 0 (4192 ∷ 8224 ∷ 12384 ∷ []) ∷ entry 12384 0 (4192 ∷ 8224 ∷ 12384 ∷ []) ∷ entry 8224 0 (4160 ∷ 8192 ∷ [])
          ∷ entry 4192 0 (4192 ∷ []) ∷ entry 8192 0 (4192 ∷ 8224 ∷ []) ∷ entry 4160 0 (4192 ∷ []) ∷ [];
      cycle = true;
    }
    ∷ record {
      duty = marked_loop;
      rule = marked_loop;
      entries = entry 12288 0 (4192 ∷ 12384 ∷ []) ∷ entry 12384 0 (4192 ∷ 12384 ∷ []) ∷ entry 4192 0 (4192 ∷ []) ∷ [];
      cycle = false;
    }
    ∷ record {
      duty = unmarked_loop;
      rule = unmarked_loop;
      entries =
          entry 12288 0 (4160 ∷ 8192 ∷ 12352 ∷ []) ∷ entry 12352 0 (4160 ∷ 8192 ∷ 12352 ∷ []) ∷ entry 8192 0 (4160 ∷ 8192 ∷ [])
          ∷ entry 4160 0 (4160 ∷ []) ∷ [];
      cycle = false;
    }
    ∷ record {
      duty = marked_loop;
      rule = still;
      entries = entry 12288 0 (32 ∷ []) ∷ entry 32 0 (0 ∷ []) ∷ entry 0 0 (32 ∷ []) ∷ [];
      cycle = true;
    }
    ∷ record {
      duty = marked_loop;
      rule = no_start;
      entries = entry 0 0 (32 ∷ []) ∷ entry 32 0 (0 ∷ []) ∷ [];
      cycle = true;
    }
    ∷ record {
      duty = still;
      rule = unmarked_loop;
      entries = entry 12288 0 [] ∷ [];
      cycle = false;
    }
    ∷ record {
      duty = no_start;
      rule = unmarked_loop;
      entries = [];
      cycle = false;
    }
    ∷ []

module _ (e : Worked) where
  abbrev pub graph_of : Graph
  graph_of = ranked_graph (means e.duty) (means e.rule)

  -- entry k
  abbrev pub entry_at : ℕ → Entry
  entry_at k = slice_index_or e.entries k (entry 0 0 [])

-- v is one of the list
abbrev pub Listed : List ℕ → ℕ → Type 0
Listed xs v = (i : ℕ) × (i < length xs) × (slice_index xs i ≡ v)

pub record Holds (e : Worked) : Type 0 where
  pub charts : Charts (means e.duty) (means e.rule)
  -- the nodes that can be reached have one entry each, and no others have one
  pub reached : (v : ℕ) → Reach (graph_of e) v → (k : ℕ) × (k < length e.entries) × ((entry_at e k).node ≡ v)
  pub only : (k : ℕ) → k < length e.entries → Reach (graph_of e) (entry_at e k).node
  pub once :
      (i k : ℕ) → i < length e.entries → k < length e.entries → (entry_at e i).node ≡ (entry_at e k).node → i ≡ k
  pub edges :
      (k : ℕ) → k < length e.entries → (w : ℕ) → Edge (graph_of e) (entry_at e k).node w ↔ Listed (entry_at e k).next w
  pub cycle :
      MatchBool e.cycle (MarkedCycle (graph_of e))
      (FallingMeasures (graph_of e) (λ k. (entry_at e k).node) (λ k. (entry_at e k).measure) (length e.entries))
  pub words : MatchBool e.cycle (Differs (means e.duty) (means e.rule)) (Included (means e.duty) (means e.rule))

-- Tests of all numbers put together of parts that are small enough: each node's number is among them.
module _ (a b : Automaton) (p : ℕ → Bool) where
  abbrev each_ranks : ℕ → ℕ → ℕ → Bool
  each_ranks duty turn owed = all_below (2 ^ (4 * b.states)) (λ ranks. p (duty + turn * 2 ^ 5 + owed * 2 ^ 6 + ranks * 2 ^ 12))

  abbrev each_owed : ℕ → ℕ → Bool
  each_owed duty turn = all_below (2 ^ (1 * b.states)) (each_ranks duty turn)

  abbrev each_turn : ℕ → Bool
  each_turn duty = all_below 2 (each_owed duty)

  abbrev each_node : Bool
  each_node = all_below a.states each_turn

  node_passes : a.states ≤ 32 → b.states ≤ 6 → each_node ≡ true → (v : ℕ) → is_number a b v ≡ true → p v ≡ true
  node_passes few_duty few_rule t v e =
      let x = parts v in
      let n = number_holds a b v e in
      let fits = node_fits a b few_duty few_rule x n.valid in
      let owed = λ (q : ℕ). flag (x.owed q) in
      let ranks = λ (q : ℕ). held (x.rank q) in
      let duty_passes = all_at a.states each_turn t x.duty n.valid.duty in
      let turn_passes = all_at 2 (each_owed x.duty) duty_passes (flag x.turn) (flag_small x.turn) in
      let owed_passes =
      all_at (2 ^ (1 * b.states)) (each_ranks x.duty (flag x.turn)) turn_passes (fields 1 owed b.states)
      (fields_small 1 owed b.states (λ q h. flag_small (x.owed q))) in
      subst (λ w. p w ≡ true) (sym n.same)
      (all_at (2 ^ (4 * b.states))
      (λ ranks. p (x.duty + flag x.turn * 2 ^ 5 + fields 1 owed b.states * 2 ^ 6 + ranks * 2 ^ 12)) owed_passes
      (fields 4 ranks b.states) (fields_small 4 ranks b.states fits.ranks))

-- v is one of the list
abbrev is_in : List ℕ → ℕ → Bool
is_in xs v = any_below (length xs) (λ i. eqb (get_or xs i 0) v)

in_listed : (xs : List ℕ) (v : ℕ) → is_in xs v ≡ true → Listed xs v
in_listed xs v e =
    let i = any_at (length xs) (λ i. eqb (get_or xs i 0) v) e in
    (i.0, i.1, eqb-true (get_or xs i.0 0) v i.2)

listed_in : (xs : List ℕ) (v : ℕ) → Listed xs v → is_in xs v ≡ true
listed_in xs v (i, h, e) = any_from (length xs) (λ i. eqb (get_or xs i 0) v) i h (eq-eqb (get_or xs i 0) v e)

-- a test of either case
cond_match : (b x y : Bool) (P Q : Type 0) → cond b x y ≡ true → (x ≡ true → P) → (y ≡ true → Q) → MatchBool b P Q
cond_match true x y P Q e p q = p e
cond_match false x y P Q e p q = q e

-- a marked cycle or falling measures, and what they tell of the words
words_told : (c : Bool) (a b : Automaton) → Charts a b → (node measure : ℕ → ℕ) (count : ℕ)
    → MatchBool c (MarkedCycle (ranked_graph a b)) (FallingMeasures (ranked_graph a b) node measure count) → MatchBool c (Differs a b) (Included a b)
words_told true a b charts node measure count cycle = (cycles_decide a b charts).exactly.0 cycle
words_told false a b charts node measure count falls = (measures_tell a b charts node measure count falls).1

-- a table of a size that charts can have
abbrev is_size : TableChart → Bool
is_size t = (leb 1 t.states && leb t.states 32) && (leb 1 t.letters && leb t.letters 16)

size_limits : (t : TableChart) → is_size t ≡ true → Limits (means t)
size_limits t e =
    let p = and_parts (leb 1 t.states && leb t.states 32) (leb 1 t.letters && leb t.letters 16) e in
    let q = and_parts (leb 1 t.states) (leb t.states 32) p.0 in
    let r = and_parts (leb 1 t.letters) (leb t.letters 16) p.1 in
    fitted_limits t.states t.letters (rowwise t.states t.letters t.letters t.starts t.marks t.rows)
    (record {
      some_states = leb-true 1 t.states q.0;
      few_states = leb-true t.states 32 q.1;
      some_letters = leb-true 1 t.letters r.0;
      few_letters = leb-true t.letters 16 r.1;
    })

module _ (e : Worked) where
  abbrev a : Automaton
  a = means e.duty

  abbrev b : Automaton
  b = means e.rule

  abbrev g : Graph
  g = graph_of e

  abbrev count : ℕ
  count = length e.entries

  abbrev node : ℕ → ℕ
  node k = (entry_at e k).node

  abbrev measure : ℕ → ℕ
  measure k = (entry_at e k).measure

  abbrev next_of : ℕ → List ℕ
  next_of k = (entry_at e k).next

  -- the tests: the sizes are allowed
  abbrev within : Bool
  within = is_size e.duty && (is_size e.rule && leb e.rule.states 6)

  -- some entry is of v
  abbrev found : ℕ → Bool
  found v = any_below count (λ k. eqb (node k) v)

  -- a start has an entry, and each entry tells whether an edge leads to w
  abbrev told : ℕ → Bool
  told w =
      not (is_number a b w)
      || ((not (g.start w) || found w) && all_below count (λ k. beq (joined g (node k) w) (is_in (next_of k) w)))

  abbrev complete : Bool
  complete = each_node a b told

  -- each entry is of a node, and so is whatever it tells next
  abbrev closed_at : ℕ → Bool
  closed_at k = is_number a b (node k) && all_below (length (next_of k)) (λ i. found (get_or (next_of k) i 0))

  abbrev closed : Bool
  closed = all_below count closed_at

  -- each is of a start or comes after one that leads to it
  abbrev ordered_at : ℕ → Bool
  ordered_at k = g.start (node k) || any_below k (λ i. is_in (next_of i) (node k))

  abbrev ordered : Bool
  ordered = all_below count ordered_at

  abbrev apart_at : ℕ → Bool
  apart_at i = all_below i (λ k. not (eqb (node k) (node i)))

  abbrev apart : Bool
  apart = all_below count apart_at

  -- a marked node lies on a cycle of two edges
  abbrev turns : ℕ → ℕ → Bool
  turns i k = is_in (next_of i) (node k) && is_in (next_of k) (node i)

  abbrev returns_at : ℕ → Bool
  returns_at i = g.marked (node i) && any_below count (turns i)

  abbrev returns : Bool
  returns = any_below count returns_at

  -- the measure of entry k does not rise to that of w, and falls from a marked node
  abbrev falls_to : ℕ → ℕ → ℕ → Bool
  falls_to k w j = eqb (node j) w && (leb (measure j) (measure k) && (not (g.marked (node k)) || ltb (measure j) (measure k)))

  abbrev falls_at : ℕ → Bool
  falls_at k = all_below (length (next_of k)) (λ i. any_below count (falls_to k (get_or (next_of k) i 0)))

  abbrev falls : Bool
  falls = all_below count falls_at

  abbrev cycle_told : Bool
  cycle_told = cond e.cycle returns falls

  abbrev passes : Bool
  passes = within && (complete && (closed && (ordered && (apart && cycle_told))))

  found_at : (v : ℕ) → found v ≡ true → (k : ℕ) × (k < count) × (node k ≡ v)
  found_at v t = let k = any_at count (λ k. eqb (node k) v) t in (k.0, k.1, eqb-true (node k.0) v k.2)

  charts : within ≡ true → Charts a b
  charts w =
      let p = and_parts (is_size e.duty) (is_size e.rule && leb e.rule.states 6) w in
      let q = and_parts (is_size e.rule) (leb e.rule.states 6) p.1 in
      record { duty = size_limits e.duty p.0; rule = size_limits e.rule q.0; few_states = leb-true e.rule.states 6 q.1 }

  module _ (w : within ≡ true) (c : complete ≡ true) (d : closed ≡ true) where
    number_told : (v : ℕ) → is_number a b v ≡ true
        → ((not (g.start v) || found v) && all_below count (λ k. beq (joined g (node k) v) (is_in (next_of k) v))) ≡ true
    number_told v n =
        let sizes = charts w in
        implied (is_number a b v)
        ((not (g.start v) || found v) && all_below count (λ k. beq (joined g (node k) v) (is_in (next_of k) v)))
        (node_passes a b told sizes.duty.size.few_states sizes.few_states c v n) n

    start_found : (v : ℕ) → g.start v ≡ true → (k : ℕ) × (k < count) × (node k ≡ v)
    start_found v s =
        let t = and_parts (not (g.start v) || found v) (all_below count (λ k. beq (joined g (node k) v) (is_in (next_of k) v)))
        (number_told v (start_number a b v s)) in
        found_at v (implied (g.start v) (found v) t.0 s)

    joined_in : (k v : ℕ) → k < count → is_number a b v ≡ true → joined g (node k) v ≡ is_in (next_of k) v
    joined_in k v h n =
        let t = and_parts (not (g.start v) || found v) (all_below count (λ k. beq (joined g (node k) v) (is_in (next_of k) v)))
        (number_told v n) in
        (booleans_Decides (joined g (node k) v) (is_in (next_of k) v)).0 (all_at count (λ k. beq (joined g (node k) v) (is_in (next_of k) v)) t.1 k h)

    edge_listed : (k v : ℕ) → k < count → Edge g (node k) v → Listed (next_of k) v
    edge_listed k v h x =
        let n = (edge_holds a b (node k) x.0 v x.2).to in
        in_listed (next_of k) v (sym (joined_in k v h n) ∙ edge_joined g (node k) v x)

    next_found : (k v : ℕ) → k < count → Listed (next_of k) v → (j : ℕ) × (j < count) × (node j ≡ v)
    next_found k v h (i, low, is) =
        let t = and_parts (is_number a b (node k)) (all_below (length (next_of k)) (λ i. found (get_or (next_of k) i 0)))
        (all_at count closed_at d k h) in
        found_at v (subst (λ u. found u ≡ true) is (all_at (length (next_of k)) (λ i. found (get_or (next_of k) i 0)) t.1 i low))

    listed_edge : (k v : ℕ) → k < count → Listed (next_of k) v → Edge g (node k) v
    listed_edge k v h x =
        let j = next_found k v h x in
        let t = and_parts (is_number a b (node j.0)) (all_below (length (next_of j.0)) (λ i. found (get_or (next_of j.0) i 0)))
        (all_at count closed_at d j.0 j.1) in
        joined_edge g (node k) v
        (joined_in k v h (subst (λ u. is_number a b u ≡ true) j.2 t.0) ∙ listed_in (next_of k) v x)

    reach_found : {v : ℕ} → Reach g v → (k : ℕ) × (k < count) × (node k ≡ v)
    reach_found (begin {v} s) = start_found v s
    reach_found (go {v} {w = u} r x) =
        let k = reach_found r in
        next_found k.0 u k.1 (edge_listed k.0 u k.1 (subst (λ y. Edge g y u) (sym k.2) x))

    -- the first n entries are of nodes that can be reached
    entry_reached : ordered ≡ true → (n i : ℕ) → i < n → i < count → Reach g (node i)
    entry_reached t zero i h low = absurd (omega arith)
    entry_reached t (suc n) i h low =
        ⊎_elim (λ (s : g.start (node i) ≡ true). begin s)
        (λ f. let k = any_at i (λ k. is_in (next_of k) (node i)) f in
        let before : k.0 < count = omega (arith, k.1) in
        go (entry_reached t n k.0 (omega (arith, k.1)) before) (listed_edge k.0 (node i) before (in_listed (next_of k.0) (node i) k.2)))
        (or_cases (g.start (node i)) (any_below i (λ k. is_in (next_of k) (node i))) (all_at count ordered_at t i low))

    returns_cycle : ordered ≡ true → returns ≡ true → MarkedCycle g
    returns_cycle t r =
        let i = any_at count returns_at r in
        let m = and_parts (g.marked (node i.0)) (any_below count (turns i.0)) i.2 in
        let k = any_at count (turns i.0) m.1 in
        let p = and_parts (is_in (next_of i.0) (node k.0)) (is_in (next_of k.0) (node i.0)) k.2 in (
          node i.0,
          record {
            reached = entry_reached t count i.0 i.1 i.1;
            marked = m.0;
            cycle = (
              node k.0,
              listed_edge i.0 (node k.0) i.1 (in_listed (next_of i.0) (node k.0) p.0),
              next (listed_edge k.0 (node i.0) k.1 (in_listed (next_of k.0) (node i.0) p.1)) here,
            );
          },
        )

    falls_hold : falls ≡ true → FallingMeasures g node measure count
    falls_hold t =
        record {
          starts = start_found;
          edges =
              λ i l v h x. let known = edge_holds a b (node i) l v x in
              let p = edge_listed i v h (l, known.letter, x) in
              let j = any_at count (falls_to i (get_or (next_of i) p.0 0))
              (all_at (length (next_of i)) (λ k. any_below count (falls_to i (get_or (next_of i) k 0))) (all_at count falls_at t i h) p.0 p.1) in
              let q = and_parts (eqb (node j.0) (get_or (next_of i) p.0 0))
              (leb (measure j.0) (measure i) && (not (g.marked (node i)) || ltb (measure j.0) (measure i))) j.2 in
              let r = and_parts (leb (measure j.0) (measure i)) (not (g.marked (node i)) || ltb (measure j.0) (measure i)) q.1 in (
                j.0,
                j.1,
                eqb-true (node j.0) (get_or (next_of i) p.0 0) q.0 ∙ p.2,
                leb-true (measure j.0) (measure i) r.0,
                λ m. ltb-true (measure j.0) (measure i) (implied (g.marked (node i)) (ltb (measure j.0) (measure i)) r.1 m),
              );
        }

  apart_below : apart ≡ true → (i k : ℕ) → i < count → k < i → node k ≡ node i → ⊥
  apart_below t i k low h same =
      let differs = all_at i (λ k. not (eqb (node k) (node i))) (all_at count apart_at t i low) k h in
      both_ways (eqb (node k) (node i)) (not-true (eqb (node k) (node i)) differs) (eq-eqb (node k) (node i) same)

  apart_once : apart ≡ true → (i k : ℕ) → i < count → k < count → node i ≡ node k → i ≡ k
  apart_once t i k hi hk same =
      ⊎_elim (λ x. x)
      (⊎_elim (λ h. absurd (apart_below t k i hk h same)) (λ h. absurd (apart_below t i k hi h (sym same))))
      (cases_order i k)

  passes_holds : passes ≡ true → Holds e
  passes_holds t =
      let p = and_parts within (complete && (closed && (ordered && (apart && cycle_told)))) t in
      let q = and_parts complete (closed && (ordered && (apart && cycle_told))) p.1 in
      let r = and_parts closed (ordered && (apart && cycle_told)) q.1 in
      let s = and_parts ordered (apart && cycle_told) r.1 in
      let u = and_parts apart cycle_told s.1 in
      let cycle : MatchBool e.cycle (MarkedCycle g) (FallingMeasures g node measure count) =
      cond_match e.cycle returns falls (MarkedCycle g) (FallingMeasures g node measure count) u.1
      (returns_cycle p.0 q.0 r.0 s.0) (falls_hold p.0 q.0 r.0) in
      record {
        charts = charts p.0;
        reached = λ v x. reach_found p.0 q.0 r.0 x;
        only = λ k h. entry_reached p.0 q.0 r.0 s.0 count k h h;
        once = apart_once u.0;
        edges = λ k h v. (edge_listed p.0 q.0 r.0 k v h, listed_edge p.0 q.0 r.0 k v h);
        cycle = cycle;
        words = words_told e.cycle a b (charts p.0) node measure count cycle;
      }

all_pass : list_all passes worked ≡ true
all_pass = refl

pub graphs_hold : All Holds worked
graphs_hold k d h = passes_holds (slice_index_or worked k d) (AllPass-from_list_all passes worked all_pass k d h)
