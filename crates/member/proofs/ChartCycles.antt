-- A chart takes some word exactly if its own graph has a marked cycle: the word is read off a short loop.
use Rattle.std.proofs.Common.{◌≡◌, ℕ, suc, ◌-◌, ◌≤◌, true, List, length, refl, arith}
use Rattle.std.proofs.lemmas.Bool.{ltb-true}
use Rattle.numbers.proofs.Returning.{carried, somewhere}
use Rattle.chart.specs.Automata.{Automaton, Limits}
use Rattle.graph.specs.Walks.{MarkedCycle, More}
use Rattle.graph.proofs.Counting.{not_more, Placed}
use Rattle.graph.proofs.Loops.{Loop, cycle_short_loop, loop_cycle}
use Rattle.graph.proofs.Paths.{reach_node}
use Rattle.graph.proofs.Unrolled.{loop_word, position_letter, walk_cycle, word_good, word_length}
use Rattle.lasso.specs.Words.{Takes, Accepts, letter}
use Rattle.lasso.proofs.Agreeing.{takes_accepts}
use Rattle.member.specs.Bounds.{chart_bounded}
use Rattle.member.specs.Maps.{chart_graph}
use Rattle.member.specs.Questions.{TakesSome}

module _ (m : Automaton) where
  loop_takes : (l : Loop (chart_graph m)) → Takes m (loop_word (chart_graph m) l) l.back.from
  loop_takes l =
      record {
        run = l.at;
        starts = l.starts;
        back =
            carried l.back l.at (λ k. m.mark (l.at k) ≡ true) l.back.from (length (loop_word (chart_graph m) l) - l.back.from) (omega arith)
            (1, rw (word_length (chart_graph m) l) (omega arith)) l.back.closes (λ k h x. x);
        steps = λ k h. rw (position_letter (chart_graph m) l k h) (l.edges k h).1;
      }

  loop_taken : (l : Loop (chart_graph m)) → l.back.to ≤ 131072 → TakesSome m
  loop_taken l few =
      let good = word_good (chart_graph m) l few in
      record {
        word = loop_word (chart_graph m) l;
        stem = l.back.from;
        good = good;
        takes = loop_takes l;
        accepts = takes_accepts m (loop_word (chart_graph m) l) l.back.from good.lasso.loops (loop_takes l);
      }

  -- the chart's states are the places of all nodes
  states_placed : Limits m → Placed (chart_graph m) m.states (λ i. i)
  states_placed h v r = (v, ltb-true v m.states (reach_node (chart_graph m) (chart_bounded m h) v r), refl)

  pub cycle_taken : Limits m → MarkedCycle (chart_graph m) → TakesSome m
  cycle_taken h c =
      let short = cycle_short_loop (chart_graph m) m.states (λ i. i) (states_placed h) c in
      loop_taken short.0 (omega (arith, short.1, h.size.few_states))

  pub takes_cycle : Limits m → (word : List ℕ) (stem : ℕ) → Takes m word stem → MarkedCycle (chart_graph m)
  takes_cycle h word stem t =
      loop_cycle (chart_graph m) (record {
        at = t.run;
        by = letter word stem;
        starts = t.starts;
        back = somewhere t.back;
        edges = λ k low. ((h.steps (t.run k) (letter word stem k) (t.run (suc k)) (t.steps k low)).1, t.steps k low);
      })

  -- of any endless word, whether it repeats or not
  pub accepts_cycle : Limits m → (word : ℕ → ℕ) → Accepts m word → MarkedCycle (chart_graph m)
  accepts_cycle h word a =
      walk_cycle (chart_graph m) (chart_bounded m h) m.states (λ v e. ltb-true v m.states e) a.run word
      (record { starts = a.starts; edges = a.steps; again = a.again })

  -- a chart's map has no more nodes than the chart has states
  pub not_more_states : Limits m → (n : ℕ) → m.states ≤ n → More (chart_graph m) n → ⊥
  not_more_states h n enough =
      not_more (chart_graph m) n m.states (λ i. i) enough (states_placed h)
