-- Endless walks past marked nodes. Where the nodes are finitely many, such a walk comes back to one of them, so there is a
-- marked cycle. And a marked cycle is a lasso, which unrolled is such a walk.
use Rattle.std.proofs.Common.{◌≡◌, ℕ, suc, ◌+◌, ◌-◌, ◌*◌, ◌<◌, ◌≤◌, true, List, map, length, get_or, sym, ap, ◌∙◌, subst, ⊎_elim, le-mul_of_pos_right, arith}
use Rattle.std.proofs.lemmas.Bool.{cases_lt}
use Rattle.std.proofs.lemmas.List.FromFn.{get_or-map-range_with_len, length-map-range_with_len}
use Rattle.std.specs.List.{range_with_len}
use Rattle.numbers.proofs.Returning.{returns}
use Rattle.graph.specs.Graphs.{Graph, Bounded}
use Rattle.graph.specs.Walks.{MarkedCycle}
use Rattle.graph.specs.Witnesses.{MarkedLasso}
use Rattle.graph.proofs.Loops.{Loop, loop_cycle}
use Rattle.lasso.specs.Positions.{place}
use Rattle.lasso.specs.Words.{letter, IsWord}
use Rattle.lasso.proofs.Places.{place_first, place_below, place_laps, place_next, place_zero, after_next, after_last}

-- an endless walk from a start that passes a marked node again and again
pub record EndlessWalk (g : Graph) (at by : ℕ → ℕ) : Type 0 where
  pub starts : g.start (at 0) ≡ true
  pub edges : (k : ℕ) → g.edge (at k) (by k) (at (suc k)) ≡ true
  pub again : (k : ℕ) → (i : ℕ) × (k ≤ i) × (g.marked (at i) ≡ true)

module _ (g : Graph) (b : Bounded g) where
  -- where the nodes are below n
  pub walk_cycle : (n : ℕ) → ((v : ℕ) → g.node v ≡ true → v < n) → (at by : ℕ → ℕ) → EndlessWalk g at by → MarkedCycle g
  walk_cycle n few at by w =
      let e = λ (k : ℕ). b.edges (at k) (by k) (at (suc k)) (w.edges k) in
      loop_cycle g (record {
        at = at;
        by = by;
        starts = w.starts;
        back = returns n at (λ k. few (at k) (e k).0) (λ i. g.marked (at i) ≡ true) w.again 0 1 (omega arith);
        edges = λ k h. ((e k).1, w.edges k);
      })

-- a loop is a lasso of its nodes
pub loop_lasso : (g : Graph) (l : Loop g) → MarkedLasso g l.at l.by l.back.to l.back.from
loop_lasso g l =
    record {
      loops = l.back.goes;
      starts = l.starts;
      steps =
          λ k h. ⊎_elim
          (λ (inner : suc k < l.back.to). rw (after_next l.back.to l.back.from k inner) (l.edges k h).1)
          (λ (outer : l.back.to ≤ suc k). let e : suc k ≡ l.back.to = omega arith in
          let s : l.at (suc k) ≡ l.at l.back.from = ap l.at e ∙ sym l.back.closes in
          rw (after_last l.back.to l.back.from k outer) (subst (λ v. g.edge (l.at k) (l.by k) v ≡ true) s (l.edges k h).1))
          (cases_lt (suc k) l.back.to);
      passes = l.back.passes;
    }

-- a lasso goes on for ever, and passes its marked node once each lap
module _ (g : Graph) (node by : ℕ → ℕ) (count stem : ℕ) (m : MarkedLasso g node by count stem) where
  pub lasso_walk : EndlessWalk g (λ k. node (place count stem k)) (λ k. by (place count stem k))
  lasso_walk =
      record {
        starts = rw (place_zero count stem m.loops) m.starts;
        edges =
            λ k. rw (place_next count stem k m.loops) (m.steps (place count stem k) (place_below count stem k m.loops));
        again =
            λ k. let i = m.passes.0 in
            let far : k ≤ k * (count - stem) = le-mul_of_pos_right k (omega (arith, m.loops)) in
            let e : place count stem (i + k * (count - stem)) ≡ i =
            place_laps count stem i k m.loops m.passes.1 ∙ place_first count stem i m.passes.2 in
            (i + k * (count - stem), omega (arith, far), rw e m.passes.3);
      }

module _ (g : Graph) (l : Loop g) where
  -- the letters by which a loop goes
  pub loop_word : List ℕ
  loop_word = map l.by (range_with_len 0 l.back.to)

  pub word_length : length loop_word ≡ l.back.to
  unfolding loop_word
  word_length = length-map-range_with_len l.by 0 l.back.to

  pub word_letter : (k : ℕ) → k < l.back.to → get_or loop_word k 0 ≡ l.by k
  unfolding loop_word
  word_letter k h = get_or-map-range_with_len l.by 0 l.back.to k k 0 h (omega arith)

  -- up to its end the word has them at the same positions
  pub position_letter : (k : ℕ) → k < l.back.to → letter loop_word l.back.from k ≡ l.by k
  position_letter k h =
      let inside : k < length loop_word = rw word_length h in
      rw (place_first (length loop_word) l.back.from k inside) (word_letter k h)

  pub word_known : (k : ℕ) → k < length loop_word → get_or loop_word k 0 < g.letters
  word_known k h = let low : k < l.back.to = rw word_length at h in rw (word_letter k low) (l.edges k low).0

  -- a short loop's word is within the limits of words
  pub word_good : l.back.to ≤ 131072 → IsWord g.letters loop_word l.back.from
  word_good few =
      record {
        lasso = rw word_length (record { some_elements = omega (arith, l.back.goes); few_elements = few; loops = l.back.goes });
        known = word_known;
      }

  -- so it is a lasso of the graph by the letters of its word
  pub word_lasso : MarkedLasso g l.at (λ k. get_or loop_word k 0) (length loop_word) l.back.from
  word_lasso =
      let m = loop_lasso g l in
      rw word_length (record {
        loops = m.loops;
        starts = m.starts;
        steps = λ k h. rw (word_letter k h) (m.steps k h);
        passes = m.passes;
      })
