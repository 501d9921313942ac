-- A run of the duty and an odd ranking of the rule make an endless walk of the ranked graph past marked nodes. Its nodes have
-- the run's states, the ranks of the ranking (at the start the greatest rank), and the owed sets and turns that the rules
-- make of them. A state that is owed for long would have a run of even ranks behind it, so the owed set becomes empty again
-- and again; and the duty's marked states set the turn again and again.
use Rattle.std.proofs.Common.{◌≡◌, ℕ, zero, suc, ◌+◌, ◌-◌, ◌*◌, ◌<◌, ◌≤◌, Bool, true, false, cond, ◌⊎◌, inl, inr, Option, Some, None, refl, ap, sym, subst, ◌∙◌, ⊎_elim, arith}
use Rattle.std.proofs.lemmas.Bool.{both_ways, cases_Bool, cond-false, cond-true, false_from_ne_true, false≢true}
use Rattle.chart.specs.Automata.{Automaton}
use Rattle.lasso.specs.Words.{Accepts}
use Rattle.lasso.proofs.Returning.{run_below}
use Rattle.rank.specs.Complement.{ranked}
use Rattle.rank.specs.Containment.{Charts}
use Rattle.rank.specs.Layout.{parts, number}
use Rattle.rank.specs.Nodes.{Node}
use Rattle.rank.specs.Numbering.{IsNode}
use Rattle.rank.specs.Ranked.{is_number}
use Rattle.rank.specs.Rules.{top_rank, is_even, has_even, is_empty, is_first_rank, is_next_rank, next_owed, next_turn}
use Rattle.rank.specs.Subsets.{level}
use Rattle.numbers.specs.Below.{any_below}
use Rattle.numbers.proofs.Below.{any_at, any_from}
use Rattle.rank.proofs.Laws.{empty_from, first_none, first_some, next_none, next_some, owed_before, owed_even as next_even, some_member, top_even, turn_lasts, turn_waits}
use Rattle.rank.proofs.Numbers.{numbers_correspond}
use Rattle.rank.proofs.OddRankings.{EvenRun, OddRanking, run_more, run_one}
use Rattle.rank.proofs.Subsets.{level_before, level_below, level_next}
use Rattle.rank.proofs.Tests.{Start, Step, edge_test, first_test, mark_test}

-- a number from k on that passes, or none of the next d
first_or_none : (f : ℕ → Bool) (d k : ℕ) → ((t : ℕ) × (k ≤ t) × (f t ≡ true)) ⊎ ((t : ℕ) → k ≤ t → t < k + d → f t ≡ false)
first_or_none f d k =
    let p : ℕ → Bool = λ i. f (k + i) in
    ⊎_elim (λ some. let i = any_at d p some in inl (k + i.0, omega arith, i.2))
    (λ none. inr (λ t low high. let e : k + (t - k) ≡ t = omega arith in
    false_from_ne_true (f t) (λ passes. both_ways (any_below d p) none (any_from d p (t - k) (omega arith) (subst (λ x. f x ≡ true) (sym e) passes)))))
    (cases_Bool (any_below d p))

module _ (a b : Automaton) (charts : Charts a b) (word : ℕ → ℕ) (width : ℕ) (fits : 2 * width ≤ top_rank b)
    (duty : Accepts a word) (odd : OddRanking b word width) where
  -- the rank that state q has at position k if it is in the level
  value : ℕ → ℕ → ℕ
  value zero q = top_rank b
  value (suc k) q = odd.rank (suc k) q

  value_most : (k q : ℕ) → level b word k q ≡ true → value k q ≤ top_rank b
  unfolding value
  value_most zero q at = omega arith
  value_most (suc k) q at = omega (arith, odd.most (suc k) q at)

  value_falls : (k p q : ℕ) → level b word k p ≡ true → b.step p (word k) q ≡ true → value (suc k) q ≤ value k p
  unfolding value
  value_falls zero p q at step = value_most 1 q (level_next b charts.rule word 0 p q at step)
  value_falls (suc k) p q at step = odd.falls (suc k) p q at step

  value_even : (k q : ℕ) → level b word k q ≡ true → b.mark q ≡ true → is_even (value k q) ≡ true
  unfolding value
  value_even zero q at m = top_even b
  value_even (suc k) q at m = odd.even (suc k) q at m

  ranks : ℕ → ℕ → Option ℕ
  ranks k q = cond (level b word k q) (Some (value k q)) None

  owed : ℕ → ℕ → Bool
  owed zero q = false
  owed (suc k) q = next_owed b (owed k) (word k) (ranks (suc k)) q

  turn : ℕ → Bool
  turn zero = false
  turn (suc k) = next_turn a b (record { duty = duty.run k; rank = ranks k; owed = owed k; turn = turn k })

  node : ℕ → Node
  node k = record { duty = duty.run k; rank = ranks k; owed = owed k; turn = turn k }

  -- a state has its rank exactly if it is in the level
  ranks_in : (k q : ℕ) → level b word k q ≡ true → ranks k q ≡ Some (value k q)
  unfolding ranks
  ranks_in k q at = cond-true (level b word k q) (Some (value k q)) None at

  ranks_out : (k q : ℕ) → level b word k q ≡ false → ranks k q ≡ None
  unfolding ranks
  ranks_out k q out = cond-false (level b word k q) (Some (value k q)) None out

  ranks_are : (k q s : ℕ) → ranks k q ≡ Some s → (level b word k q ≡ true) × (s ≡ value k q)
  ranks_are k q s e =
      ⊎_elim (λ at. (at, cc (ranks_in k q at, e))) (λ out. absurd (cc (ranks_out k q out, e))) (cases_Bool (level b word k q))

  -- so nodes, starts and steps are what the rules ask for
  owed_even : (k q : ℕ) → owed k q ≡ true → has_even (ranks k q) ≡ true
  unfolding owed
  owed_even zero q o = absurd (false≢true o)
  owed_even (suc k) q o = next_even b (owed k) (word k) (ranks (suc k)) q o

  owed_level : (k q : ℕ) → owed k q ≡ true → (level b word k q ≡ true) × (is_even (value k q) ≡ true)
  owed_level k q o =
      ⊎_elim (λ at. (at, subst (λ r. has_even r ≡ true) (ranks_in k q at) (owed_even k q o)))
      (λ out. absurd (false≢true (subst (λ r. has_even r ≡ true) (ranks_out k q out) (owed_even k q o))))
      (cases_Bool (level b word k q))

  node_is : (k : ℕ) → IsNode a b (node k)
  unfolding node
  node_is k =
      record {
        duty = run_below a word charts.duty duty k;
        ranks =
            λ q r e. let s = ranks_are k q r e in (
              level_below b charts.rule word k q s.0,
              omega (arith, s.1, value_most k q s.0),
              λ m. subst (λ x. is_even x ≡ true) (sym s.1) (value_even k q s.0 m),
            );
        owed = λ q o. owed_even k q o;
      }

  start_rank : (q : ℕ) → is_first_rank b q (ranks 0 q) ≡ true
  unfolding value
  start_rank q =
      ⊎_elim (λ at. subst (λ o. is_first_rank b q o ≡ true) (sym (ranks_in 0 q at)) (first_some b q at))
      (λ out. subst (λ o. is_first_rank b q o ≡ true) (sym (ranks_out 0 q out)) (first_none b q out))
      (cases_Bool (level b word 0 q))

  start_is : Start a b (node 0)
  unfolding node owed turn
  start_is =
      record {
        duty = duty.starts;
        ranks = λ q h. start_rank q;
        owed = empty_from b (λ q. false) (λ q h o. false≢true o);
        turn = refl;
      }

  step_rank : (k q : ℕ) → is_next_rank b (ranks k) (word k) q (ranks (suc k) q) ≡ true
  step_rank k q =
      ⊎_elim
      (λ at. let p = level_before b charts.rule word k q at in
      subst (λ o. is_next_rank b (ranks k) (word k) q o ≡ true) (sym (ranks_in (suc k) q at))
      (next_some b (ranks k) (word k) p.0 q (value k p.0) (value (suc k) q) (level_below b charts.rule word k p.0 p.1) (ranks_in k p.0 p.1) p.2
      (λ o s is step. let f = ranks_are k o s is in omega (arith, f.1, value_falls k o q f.0 step))))
      (λ out. subst (λ o. is_next_rank b (ranks k) (word k) q o ≡ true) (sym (ranks_out (suc k) q out))
      (next_none b (ranks k) (word k) q
      (λ p s is step. both_ways (level b word (suc k) q) out (level_next b charts.rule word k p q (ranks_are k p s is).0 step))))
      (cases_Bool (level b word (suc k) q))

  step_is : (k : ℕ) → Step a b (node k) (word k) (node (suc k))
  unfolding node owed turn
  step_is k =
      record {
        duty = duty.steps k;
        ranks = λ q h. step_rank k q;
        owed = λ q h. refl;
        turn = refl;
      }

  -- at the start none is owed, and afterwards it is the ranking's rank that is even
  owed_rank : (k q : ℕ) → owed k q ≡ true → is_even (odd.rank k q) ≡ true
  unfolding owed value
  owed_rank zero q o = absurd (false≢true o)
  owed_rank (suc k) q o = (owed_level (suc k) q o).1

  -- it follows an owed one, where some were owed
  owed_from : (k q : ℕ) → is_empty b (owed k) ≡ false → owed (suc k) q ≡ true → (p : ℕ) × (owed k p ≡ true) × (b.step p (word k) q ≡ true)
  unfolding owed
  owed_from k q some o = let p = owed_before b (owed k) (word k) (ranks (suc k)) q some o in (p.0, p.2, p.3)

  -- behind an owed state there is a run of even ranks, as far back as some state was owed
  owing : (d i j : ℕ) → i + d ≡ j → ((k : ℕ) → i ≤ k → k < j → is_empty b (owed k) ≡ false) → (q : ℕ) → owed j q ≡ true
      → (x : EvenRun b word odd.rank i j) × (x.at j ≡ q)
  owing zero i j e some q o =
      let same : i ≡ j = omega arith in
      subst (λ m. (x : EvenRun b word odd.rank i m) × (x.at m ≡ q)) same
      (run_one b word odd.rank i q (subst (λ m. level b word m q ≡ true) (sym same) (owed_level j q o).0)
      (subst (λ m. is_even (odd.rank m q) ≡ true) (sym same) (owed_rank j q o)))
  owing (suc d) i j e some q o =
      let m = i + d in
      let next : suc m ≡ j = omega arith in
      let last : owed (suc m) q ≡ true = subst (λ k. owed k q ≡ true) (sym next) o in
      let p = owed_from m q (some m (omega arith) (omega arith)) last in
      let x = owing d i m refl (λ k low high. some k low (omega arith)) p.0 p.1 in
      subst (λ k. (x : EvenRun b word odd.rank i k) × (x.at k ≡ q)) next
      (run_more b word odd.rank i m p.0 q (omega arith) x.0 x.1 p.2
      (owed_level (suc m) q last).0 (owed_rank (suc m) q last))

  -- so an empty owed set comes again
  emptied : (k : ℕ) → (t : ℕ) × (k ≤ t) × (is_empty b (owed t) ≡ true)
  emptied k =
      ⊎_elim (λ found. found)
      (λ none. let j = k + odd.patience in
      let q = some_member b (owed j) (none j (omega arith) (omega arith)) in
      absurd (odd.odd k (owing odd.patience k j refl (λ t low high. none t low (omega arith)) q.0 q.2).0))
      (first_or_none (λ t. is_empty b (owed t)) (suc odd.patience) k)

  -- the duty's next marked state turns the turn
  turned : (k : ℕ) → (m : ℕ) × (k ≤ m) × (turn m ≡ true)
  unfolding turn node
  turned k =
      let i = duty.again k in
      ⊎_elim (λ on. (i.0, i.1, on))
      (λ off. (suc i.0, omega (arith, i.1), turn_waits a b (node i.0) off ∙ i.2))
      (cases_Bool (turn i.0))

  -- and it stays until the owed set is empty
  paid : (d m t : ℕ) → m + d ≡ t → turn m ≡ true → is_empty b (owed t) ≡ true
      → (u : ℕ) × (m ≤ u) × (turn u ≡ true) × (is_empty b (owed u) ≡ true)
  unfolding turn node
  paid zero m t e on none = let same : t ≡ m = omega arith in (m, omega arith, on, subst (λ k. is_empty b (owed k) ≡ true) same none)
  paid (suc d) m t e on none =
      ⊎_elim (λ now. (m, omega arith, on, now))
      (λ later. let u = paid d (suc m) t (omega arith) (turn_lasts a b (node m) on later) none in (u.0, omega (arith, u.1), u.2, u.3))
      (cases_Bool (is_empty b (owed m)))

  marked_again : (k : ℕ) → (t : ℕ) × (k ≤ t) × (turn t ≡ true) × (is_empty b (owed t) ≡ true)
  marked_again k =
      let m = turned k in
      let t = emptied m.0 in
      let u = paid (t.0 - m.0) m.0 t.0 (omega (arith, t.1)) m.2 t.2 in
      (u.0, omega (arith, m.1, u.1), u.2, u.3)

  at : ℕ → ℕ
  at k = number b.states (node k)

  at_is : (k : ℕ) → (is_number a b (at k) ≡ true) × (parts (at k) ≡ node k)
  unfolding at
  at_is k = (numbers_correspond a b charts).of_node (node k) (node_is k)

  pub complete : Accepts (ranked a b) word
  unfolding node
  complete =
      record {
        run = at;
        starts = first_test a b (at 0) (at_is 0).0 (subst (Start a b) (sym (at_is 0).1) start_is);
        steps =
            λ k. edge_test a b (at k) (word k) (at (suc k)) (record {
              from = (at_is k).0;
              letter = (charts.duty.steps (duty.run k) (word k) (duty.run (suc k)) (duty.steps k)).1;
              to = (at_is (suc k)).0;
              step =
                  subst (λ x. Step a b x (word k) (parts (at (suc k)))) (sym (at_is k).1)
                  (subst (Step a b (node k) (word k)) (sym (at_is (suc k)).1) (step_is k));
            });
        again =
            λ k. let m = marked_again k in
            let same = sym (at_is m.0).1 in (
              m.0,
              m.1,
              mark_test a b (at m.0) (at_is m.0).0 (subst (λ x. x.turn ≡ true) same m.2) (subst (λ x. is_empty b x.owed ≡ true) same m.3),
            );
      }

  -- after the start its ranks are low
  pub complete_low : (k q r : ℕ) → (parts (complete.run (suc k))).rank q ≡ Some r → r ≤ 2 * width
  unfolding complete node value
  complete_low k q r e =
      let f = ranks_are (suc k) q r (ap (λ x. x.rank q) (sym (at_is (suc k)).1) ∙ e) in
      omega (arith, f.1, odd.most (suc k) q f.0)
