-- A repeating word that the rule does not take has an odd ranking: the states of each level have ranks that never rise along
-- a run and are even at marked states, and no run has an even one for long. They are the ranks of the folded graph's nodes.
use Rattle.std.proofs.Common.{◌≡◌, ℕ, suc, ◌+◌, ◌-◌, ◌*◌, ◌/◌, ◌%◌, ◌<◌, ◌≤◌, true, cond, ltb, List, length, ⊎_elim, refl, sym, subst, arith}
use Rattle.std.proofs.lemmas.Bool.{both_ways, cases_lt, cond-false, cond-true, le-ltb, lt-ltb}
use Rattle.chart.specs.Automata.{Automaton, Limits}
use Rattle.graph.specs.Graphs.{Graph}
use Rattle.graph.specs.Walks.{OnCycle, Path}
use Rattle.graph.proofs.Loops.{Goes, path_along}
use Rattle.graph.proofs.Rounds.{spot, spot_state}
use Rattle.lasso.specs.Words.{letter, Takes}
use Rattle.lasso.proofs.Places.{place_below}
use Rattle.numbers.proofs.Counts.{count_pigeon}
use Rattle.numbers.proofs.Pigeonhole.{pigeonhole}
use Rattle.rank.specs.Rules.{is_even}
use Rattle.rank.specs.Subsets.{level, size}
use Rattle.rank.proofs.Folding.{Repetition, folded, fold_holds, inside, spot_edge, cycle_takes}
use Rattle.rank.proofs.Levels.{Levelled, Crowd}
use Rattle.rank.proofs.Ranking.{Ranking, ranking}
use Rattle.rank.proofs.Subsets.{level_below}

-- a part of a run, from position i to j, of even ranks
pub record EvenRun (b : Automaton) (word : ℕ → ℕ) (rank : ℕ → ℕ → ℕ) (i j : ℕ) : Type 0 where
  pub at : ℕ → ℕ
  pub inside : (k : ℕ) → i ≤ k → k ≤ j → level b word k (at k) ≡ true
  pub even : (k : ℕ) → i ≤ k → k ≤ j → is_even (rank k (at k)) ≡ true
  pub steps : (k : ℕ) → i ≤ k → k < j → b.step (at k) (word k) (at (suc k)) ≡ true

-- a run of one state, and one of one state more
module _ (b : Automaton) (word : ℕ → ℕ) (rank : ℕ → ℕ → ℕ) where
  pub run_one : (i q : ℕ) → level b word i q ≡ true → is_even (rank i q) ≡ true → (x : EvenRun b word rank i i) × (x.at i ≡ q)
  run_one i q inside even = (
    record {
      at = λ k. q;
      inside = λ k low high. let e : i ≡ k = omega arith in subst (λ k. level b word k q ≡ true) e inside;
      even = λ k low high. let e : i ≡ k = omega arith in subst (λ k. is_even (rank k q) ≡ true) e even;
      steps = λ k low high. absurd (omega arith);
    },
    refl,
  )

  pub run_more : (i j p q : ℕ) → i ≤ j → (x : EvenRun b word rank i j) → x.at j ≡ p → b.step p (word j) q ≡ true → level b word (suc j) q ≡ true
      → is_even (rank (suc j) q) ≡ true → (y : EvenRun b word rank i (suc j)) × (y.at (suc j) ≡ q)
  run_more i j p q h x ends follows inside even =
      let step : b.step (x.at j) (word j) q ≡ true = rw ends follows in
      let at : ℕ → ℕ = λ k. cond (ltb k (suc j)) (x.at k) q in
      let old : (k : ℕ) → k ≤ j → at k ≡ x.at k = λ k low. cond-true (ltb k (suc j)) (x.at k) q (lt-ltb k (suc j) (omega arith)) in
      let new : at (suc j) ≡ q = cond-false (ltb (suc j) (suc j)) (x.at (suc j)) q (le-ltb (suc j) (suc j) (omega arith)) in
      let each : (P : ℕ → ℕ → Type 0) → ((k : ℕ) → i ≤ k → k ≤ j → P k (x.at k)) → P (suc j) q → (k : ℕ) → i ≤ k → k ≤ suc j → P k (at k) =
      λ P before last k low high. ⊎_elim (λ (under : k < suc j). subst (P k) (sym (old k (omega arith))) (before k low (omega arith)))
      (λ over. let e : suc j ≡ k = omega arith in subst (λ k. P k (at k)) e (subst (P (suc j)) (sym new) last))
      (cases_lt k (suc j)) in (
        record {
          at = at;
          inside = each (λ k p. level b word k p ≡ true) x.inside inside;
          even = each (λ k p. is_even (rank k p) ≡ true) x.even even;
          steps =
              λ k low high. let from : at k ≡ x.at k = old k (omega arith) in
              rw from
              (⊎_elim (λ (under : k < j). rw (old (suc k) under) (x.steps k low under))
              (λ over. let e : j ≡ k = omega arith in
              subst (λ k. b.step (x.at k) (word k) (at (suc k)) ≡ true) e (subst (λ p. b.step (x.at j) (word j) p ≡ true) (sym new) step))
              (cases_lt k j));
        },
        new,
      )

-- an odd ranking, with ranks up to twice the width
pub record OddRanking (b : Automaton) (word : ℕ → ℕ) (width : ℕ) : Type 0 where
  -- of state q at position k
  pub rank : ℕ → ℕ → ℕ
  pub most : (k q : ℕ) → level b word k q ≡ true → rank k q ≤ 2 * width
  pub falls : (k p q : ℕ) → level b word k p ≡ true → b.step p (word k) q ≡ true → rank (suc k) q ≤ rank k p
  pub even : (k q : ℕ) → level b word k q ≡ true → b.mark q ≡ true → is_even (rank k q) ≡ true
  -- no run has an even rank for longer than this
  pub patience : ℕ
  pub odd : (i : ℕ) → EvenRun b word rank i (i + patience) → ⊥

module _ (b : Automaton) (rule : Limits b) (word : List ℕ) (stem s e : ℕ) (h : stem < length word) (r : Repetition b word stem s e)
    (rejected : Takes b word stem → ⊥) where
  abbrev graph : Graph
  graph = folded b (letter word stem) s e

  abbrev most : ℕ
  most = e * 32

  abbrev width : ℕ
  width = size b (level b (letter word stem) s)

  abbrev node : ℕ → ℕ → ℕ
  node = spot e s

  levelled : Levelled graph most (λ v. v / 32) e s
  levelled =
      record {
        inside = inside b rule word stem s e h r;
        clean = λ v m c. rejected (cycle_takes b rule word stem s e h r v m c);
        round = λ v w x. (fold_holds b (letter word stem) s e v x.0 w x.2).position;
      }

  -- the nodes of one level are different states of the subset construction's level
  few : Crowd graph (λ v. v / 32) s width → ⊥
  few c =
      let t = count_pigeon (level b (letter word stem) s) b.states (λ i. c.at i % 32)
      (λ i low. let cycle = c.cycle i low in
      let f = fold_holds b (letter word stem) s e (c.at i) cycle.1.0 cycle.0 cycle.1.2 in
      let at : level b (letter word stem) s (c.at i % 32) ≡ true =
      subst (λ k. level b (letter word stem) k (c.at i % 32) ≡ true) (c.here i low) f.level in
      (level_below b rule (letter word stem) s (c.at i % 32) at, at)) in
      let i = t.0 in
      let j = t.1 in
      let lower : i ≤ width = omega (arith, t.2, t.3) in
      let upper : j ≤ width = t.3 in
      omega (arith, t.2, c.apart i j lower upper (omega (arith, t.4, c.here i lower, c.here j upper)))

  ranks : Ranking graph most (2 * width)
  ranks = ranking graph most (λ v. v / 32) e s width levelled few

  node_below : (k q : ℕ) → level b (letter word stem) k q ≡ true → node k q < most
  node_below k q at =
      omega (arith, place_below e s k r.early, level_below b rule (letter word stem) k q at, rule.size.few_states)

  -- a run that comes to a node again is on a cycle there
  run_cycles : (i : ℕ) → EvenRun b (letter word stem) (λ k q. ranks.rank (node k q)) i (i + most) → ⊥
  run_cycles i x =
      let f : ℕ → ℕ = λ y. node (i + y) (x.at (i + y)) in
      let t = pigeonhole most f (λ y low. node_below (i + y) (x.at (i + y)) (x.inside (i + y) (omega arith) (omega arith))) in
      let goes : (y : ℕ) → y < most → Goes graph f (λ y. letter word stem (i + y)) y =
      λ y low. let next : suc (i + y) ≡ i + suc y = omega arith in
      subst (λ k. (letter word stem (i + y) < b.letters) × (graph.edge (f y) (letter word stem (i + y)) (node k (x.at k)) ≡ true)) next
      (spot_edge b rule word stem s e h r (i + y) (x.at (i + y)) (x.at (suc (i + y)))
      (x.inside (i + y) (omega arith) (omega arith)) (x.steps (i + y) (omega arith) (omega arith))) in
      let low : t.0 < most = omega (arith, t.2, t.3) in
      let first = goes t.0 low in
      let back = path_along graph f (λ y. letter word stem (i + y)) (t.1 - suc t.0) (suc t.0) t.1 (omega (arith, t.2))
      (λ y below. goes y (omega (arith, t.3))) in
      let cycle : OnCycle graph (f t.0) =
      (f (suc t.0), (letter word stem (i + t.0), first.0, first.1), subst (Path graph (f (suc t.0))) (sym t.4) back) in
      both_ways (is_even (ranks.rank (f t.0))) (ranks.odd (f t.0) cycle) (x.even (i + t.0) (omega arith) (omega arith))

  pub odd_ranking : OddRanking b (letter word stem) width
  odd_ranking =
      record {
        rank = λ k q. ranks.rank (node k q);
        most = λ k q at. ranks.most (node k q) (node_below k q at);
        falls =
            λ k p q at step. let g = spot_edge b rule word stem s e h r k p q at step in
            ranks.falls (node k p) (node (suc k) q) (letter word stem k, g.0, g.1);
        even =
            λ k q at m. let small : q < 32 = omega (arith, level_below b rule (letter word stem) k q at, rule.size.few_states) in
            ranks.even (node k q) (node_below k q at) (rw (spot_state e s k q small) m);
        patience = most;
        odd = run_cycles;
      }
