-- Along a repeating word the levels of the subset construction repeat too, since there are few sets. So all runs over the
-- word are walks of a finite graph, whose nodes are states at the positions up to the repetition.
use Rattle.std.proofs.Common.{◌≡◌, ℕ, zero, suc, ◌-◌, ◌*◌, ◌/◌, ◌%◌, ◌^◌, ◌<◌, ◌≤◌, Bool, true, false, ◌&&◌, ◌⊎◌, inl, inr, eqb, ltb, List, length, get_or, refl, sym, ap, subst, ◌∙◌, ⊎_elim, arith}
use Rattle.std.proofs.lemmas.Bool.{and_from, and_parts, cases_lt, eq-eqb, eqb-true, false_from_ne_true, lt-ltb, ltb-true}
use Rattle.chart.specs.Automata.{Automaton, Limits}
use Rattle.graph.specs.Graphs.{Graph}
use Rattle.graph.specs.Walks.{Reach, begin, go, OnCycle, MarkedCycle}
use Rattle.graph.proofs.Loops.{loop_cycle}
use Rattle.graph.proofs.Rounds.{GoesAlong, cycle_round, spot, spot_laps, spot_place, spot_state}
use Rattle.lasso.specs.Positions.{place, after}
use Rattle.lasso.specs.Words.{letter, Takes}
use Rattle.lasso.proofs.Agreeing.{takes_accepts}
use Rattle.lasso.proofs.Places.{after_last, after_next, place_below, place_first, place_next, place_unrolled, place_zero, after_below, laps_joined}
use Rattle.lasso.proofs.Returning.{run_below, runs_return}
use Rattle.numbers.proofs.Returning.{carried, returns, somewhere}
use Rattle.rank.specs.Layout.{bits, fields, flag}
use Rattle.rank.specs.Rules.{follows}
use Rattle.rank.specs.Subsets.{level}
use Rattle.rank.proofs.Fields.{field_at, fields_small}
use Rattle.rank.proofs.Numbers.{flag_small}
use Rattle.rank.proofs.Reaching.{Inside, marked_cycle_decided}
use Rattle.rank.proofs.Subsets.{level_before, level_below, level_run}

-- from position s to e the word goes whole laps round its loop, and the levels at s and e are the same
pub record Repetition (b : Automaton) (word : List ℕ) (stem s e : ℕ) : Type 0 where
  pub late : stem ≤ s
  pub early : s < e
  pub laps : (d : ℕ) × (e - s ≡ d * (length word - stem))
  pub same : (q : ℕ) → level b (letter word stem) s q ≡ level b (letter word stem) e q

-- the runs of b over a word that repeats from e back to s: the node p * 32 + q is state q at position p
abbrev pub folded : Automaton → (ℕ → ℕ) → ℕ → ℕ → Graph
folded b word s e =
    record {
      letters = b.letters;
      node = λ v. ltb (v / 32) e && level b word (v / 32) (v % 32);
      start = λ v. eqb (v / 32) 0 && b.start (v % 32);
      marked = λ v. b.mark (v % 32);
      edge =
          λ v l w. (ltb (v / 32) e && level b word (v / 32) (v % 32))
          && (eqb l (word (v / 32)) && (eqb (w / 32) (after e s (v / 32)) && b.step (v % 32) l (w % 32)));
    }

-- what an edge is
pub record Fold (b : Automaton) (word : ℕ → ℕ) (s e v l w : ℕ) : Type 0 where
  pub inside : v / 32 < e
  pub level : level b word (v / 32) (v % 32) ≡ true
  pub letter : l ≡ word (v / 32)
  pub position : w / 32 ≡ after e s (v / 32)
  pub step : b.step (v % 32) l (w % 32) ≡ true

module _ (b : Automaton) (word : ℕ → ℕ) (s e : ℕ) where
  pub fold_holds : (v l w : ℕ) → (folded b word s e).edge v l w ≡ true → Fold b word s e v l w
  fold_holds v l w h =
      let node = ltb (v / 32) e && level b word (v / 32) (v % 32) in
      let position = eqb (w / 32) (after e s (v / 32)) in
      let step = b.step (v % 32) l (w % 32) in
      let p = and_parts node (eqb l (word (v / 32)) && (position && step)) h in
      let n = and_parts (ltb (v / 32) e) (level b word (v / 32) (v % 32)) p.0 in
      let q = and_parts (eqb l (word (v / 32))) (position && step) p.1 in
      let r = and_parts position step q.1 in
      record {
        inside = ltb-true (v / 32) e n.0;
        level = n.1;
        letter = eqb-true l (word (v / 32)) q.0;
        position = eqb-true (w / 32) (after e s (v / 32)) r.0;
        step = r.1;
      }

  pub fold_test : (v l w : ℕ) → Fold b word s e v l w → (folded b word s e).edge v l w ≡ true
  fold_test v l w f =
      let node = ltb (v / 32) e && level b word (v / 32) (v % 32) in
      let position = eqb (w / 32) (after e s (v / 32)) in
      let step = b.step (v % 32) l (w % 32) in
      and_from node (eqb l (word (v / 32)) && (position && step))
      (and_from (ltb (v / 32) e) (level b word (v / 32) (v % 32)) (lt-ltb (v / 32) e f.inside) f.level)
      (and_from (eqb l (word (v / 32))) (position && step) (eq-eqb l (word (v / 32)) f.letter)
      (and_from position step (eq-eqb (w / 32) (after e s (v / 32)) f.position) f.step))

  pub goes_along : GoesAlong (folded b word s e) b word e s
  goes_along =
      record {
        starts = λ v x. let p = and_parts (eqb (v / 32) 0) (b.start (v % 32)) x in (eqb-true (v / 32) 0 p.0, p.1);
        marks = λ v x. x;
        edges = λ v l w x. let f = fold_holds v l w x in (f.letter, f.position, f.step);
      }

module _ (b : Automaton) (rule : Limits b) (word : List ℕ) (stem s e : ℕ) (h : stem < length word) (r : Repetition b word stem s e) where
  -- a position and the one where it stands up to the repetition have the same letter
  pub place_letter : (k : ℕ) → letter word stem (place e s k) ≡ letter word stem k
  place_letter k = ap (λ p. get_or word p 0) (place_unrolled (length word) stem s e r.laps.0 k h r.late r.early r.laps.1)

  -- and the same level
  pub place_level : (k q : ℕ) → level b (letter word stem) (place e s k) q ≡ level b (letter word stem) k q
  place_level zero q = ap (λ k. level b (letter word stem) k q) (place_zero e s r.early)
  place_level (suc k) q =
      let p = place e s k in
      let next : level b (letter word stem) (suc p) q ≡ level b (letter word stem) (suc k) q =
      λ j. follows b (λ x. place_level k x j) (place_letter k j) q in
      let to : place e s (suc k) ≡ after e s p = place_next e s k r.early in
      ⊎_elim
      (λ (inner : suc p < e). ap (λ i. level b (letter word stem) i q) (to ∙ after_next e s p inner) ∙ next)
      (λ (outer : e ≤ suc p).
      let last : e ≡ suc p = omega (arith, place_below e s k r.early) in
      ap (λ i. level b (letter word stem) i q) (to ∙ after_last e s p outer)
      ∙ (r.same q ∙ (ap (λ i. level b (letter word stem) i q) last ∙ next)))
      (cases_lt (suc p) e)

  -- edges stay below the repetition
  pub inside : Inside (folded b (letter word stem) s e) (e * 32)
  inside v l w x =
      let f = fold_holds b (letter word stem) s e v l w x in
      let step = rule.steps (v % 32) l (w % 32) f.step in
      (omega (arith, f.inside), step.1, omega (arith, f.position, after_below e s (v / 32) r.early))

  -- a step of the automaton is an edge
  pub spot_edge : (k p q : ℕ) → level b (letter word stem) k p ≡ true → b.step p (letter word stem k) q ≡ true
      → (letter word stem k < b.letters) × ((folded b (letter word stem) s e).edge (spot e s k p) (letter word stem k) (spot e s (suc k) q) ≡ true)
  spot_edge k p q at step =
      let v = spot e s k p in
      let w = spot e s (suc k) q in
      let known = rule.steps p (letter word stem k) q step in
      let p_small : p < 32 = omega (arith, known.0, rule.size.few_states) in
      let q_small : q < 32 = omega (arith, known.2, rule.size.few_states) in
      let v_place : v / 32 ≡ place e s k = spot_place e s k p p_small in
      let w_place : w / 32 ≡ place e s (suc k) = spot_place e s (suc k) q q_small in
      let v_state : v % 32 ≡ p = spot_state e s k p p_small in
      let w_state : w % 32 ≡ q = spot_state e s (suc k) q q_small in (
        known.1,
        fold_test b (letter word stem) s e v (letter word stem k) w (record {
          inside = omega (arith, v_place, place_below e s k r.early);
          level = rw (v_place, v_state, place_level k p) at;
          letter = sym (ap (letter word stem) v_place ∙ place_letter k);
          position = w_place ∙ (place_next e s k r.early ∙ ap (after e s) (sym v_place));
          step = rw (v_state, w_state) step;
        }),
      )

  -- so a state of a level is reached at its position
  spot_start : (q : ℕ) → b.start q ≡ true → (folded b (letter word stem) s e).start (spot e s 0 q) ≡ true
  spot_start q at =
      let small : q < 32 = omega (arith, rule.starts q at, rule.size.few_states) in
      let v_place : spot e s 0 q / 32 ≡ 0 = spot_place e s 0 q small ∙ place_zero e s r.early in
      and_from (eqb (spot e s 0 q / 32) 0) (b.start (spot e s 0 q % 32)) (eq-eqb (spot e s 0 q / 32) 0 v_place)
      (rw (spot_state e s 0 q small) at)

  pub spot_reached : (k q : ℕ) → level b (letter word stem) k q ≡ true → Reach (folded b (letter word stem) s e) (spot e s k q)
  spot_reached zero q at = begin (spot_start q at)
  spot_reached (suc k) q at =
      let p = level_before b rule (letter word stem) k q at in
      let step = spot_edge k p.0 q p.1 p.2 in
      go (spot_reached k p.0 p.1) (letter word stem k, step.0, step.1)

  -- A marked node on a cycle lies in a level, so a run leads to it, and the cycle goes whole laps round the word.
  pub cycle_takes : (v : ℕ) → b.mark (v % 32) ≡ true → OnCycle (folded b (letter word stem) s e) v → Takes b word stem
  cycle_takes v m c =
      let g = folded b (letter word stem) s e in
      let f = fold_holds b (letter word stem) s e v c.1.0 c.0 c.1.2 in
      let here : spot e s (v / 32) (v % 32) ≡ v = omega (arith, place_first e s (v / 32) f.inside) in
      let reached : Reach g v = subst (Reach g) here (spot_reached (v / 32) (v % 32) f.level) in
      let t = cycle_round g b (letter word stem) e s r.early (goes_along b (letter word stem) s e)
      (v, record { reached = reached; marked = m; cycle = c }) in
      record {
        run = t.run;
        starts = t.starts;
        back =
            carried t.back t.run (λ k. b.mark (t.run k) ≡ true) stem (length word - stem) (omega (arith, r.late, t.back.late))
            (t.back.apart.0 * r.laps.0, laps_joined (t.back.to - t.back.from) t.back.apart.0 (e - s) r.laps.0 (length word - stem) t.back.apart.1 r.laps.1)
            t.back.closes (λ k h x. x);
        steps = λ k low. subst (λ l. b.step (t.run k) l (t.run (suc k)) ≡ true) (place_letter k) (t.steps k low);
      }

  -- A run that takes the word comes back to a state whole repetitions later, past a marked one.
  takes_cycle : Takes b word stem → MarkedCycle (folded b (letter word stem) s e)
  takes_cycle t =
      let a = takes_accepts b word stem h t in
      let again = runs_return b (letter word stem) rule a s (e - s) (omega (arith, r.early)) in
      let small : (i : ℕ) → a.run i < 32 = λ i. omega (arith, run_below b (letter word stem) rule a i, rule.size.few_states) in
      loop_cycle (folded b (letter word stem) s e) (record {
        at = λ i. spot e s i (a.run i);
        by = letter word stem;
        starts = spot_start (a.run 0) a.starts;
        edges = λ i low. spot_edge i (a.run i) (a.run (suc i)) (level_run b rule (letter word stem) a i) (a.steps i);
        back =
            somewhere (carried again (λ i. spot e s i (a.run i)) (λ i. b.mark (spot e s i (a.run i) % 32) ≡ true) s (e - s) again.late again.apart
            (spot_laps e s again.from again.to again.apart.0 (a.run again.from) (a.run again.to) r.early again.late (omega (arith, again.goes)) again.apart.1 again.closes)
            (λ k h x. rw (spot_state e s k (a.run k) (small k)) x));
      })

  -- so the word is taken exactly if a marked node lies on a cycle, and that is a test
  pub decided : Takes b word stem ⊎ (Takes b word stem → ⊥)
  decided =
      ⊎_elim (λ some. inl (cycle_takes some.0 some.2 some.3))
      (λ none. inr (λ t. let c = takes_cycle t in
      let edge = c.1.cycle.1 in none c.0 (inside c.0 edge.0 c.1.cycle.0 edge.2).0 c.1.marked c.1.cycle))
      (marked_cycle_decided (folded b (letter word stem) s e) (e * 32) inside)

same_flag : (x y : Bool) → flag x ≡ flag y → x ≡ y
same_flag true true e = refl
same_flag true false e = absurd (omega arith)
same_flag false true e = absurd (omega arith)
same_flag false false e = refl

-- levels with the same number are the same
same_level : (b : Automaton) → Limits b → (word : ℕ → ℕ) (i j : ℕ)
    → fields 1 (λ q. flag (level b word i q)) b.states ≡ fields 1 (λ q. flag (level b word j q)) b.states
    → (q : ℕ) → level b word i q ≡ level b word j q
same_level b rule word i j e q =
    let small : (k q : ℕ) → flag (level b word k q) < 2 ^ 1 = λ k q. flag_small (level b word k q) in
    ⊎_elim
    (λ (known : q < b.states).
    let at : (k : ℕ) → bits (fields 1 (λ q. flag (level b word k q)) b.states) (1 * q) 1 ≡ flag (level b word k q) =
    λ k. field_at 1 (λ q. flag (level b word k q)) b.states q (λ q h. small k q) known in
    same_flag (level b word i q) (level b word j q) (sym (at i) ∙ (ap (λ v. bits v (1 * q) 1) e ∙ at j)))
    (λ beyond.
    let none : (k : ℕ) → level b word k q ≡ false =
    λ k. false_from_ne_true (level b word k q) (λ t. omega (arith, level_below b rule word k q t)) in
    none i ∙ sym (none j))
    (cases_lt q b.states)

-- There are fewer sets of states than positions whole laps apart.
pub repetition : (b : Automaton) → Limits b → (word : List ℕ) (stem : ℕ) → stem < length word → (s : ℕ) × (e : ℕ) × Repetition b word stem s e
repetition b rule word stem h =
    let flags : ℕ → ℕ → ℕ = λ k q. flag (level b (letter word stem) k q) in
    let small : (k q : ℕ) → flags k q < 2 ^ 1 = λ k q. flag_small (level b (letter word stem) k q) in
    let set : ℕ → ℕ = λ k. fields 1 (flags k) b.states in
    let set_small : (k : ℕ) → set k < 2 ^ (1 * b.states) = λ k. fields_small 1 (flags k) b.states (λ q h. small k q) in
    let t = returns (2 ^ (1 * b.states)) set set_small (λ k. Unit {0}) (λ k. (k, omega arith, tt)) stem (length word - stem) (omega arith) in (
      t.from,
      t.to,
      record {
        late = t.late;
        early = t.goes;
        laps = t.apart;
        same = same_level b rule (letter word stem) t.from t.to t.closes;
      },
    )
