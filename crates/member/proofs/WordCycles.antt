-- A chart takes a word within its limits exactly if its graph along the word has a marked cycle.
use Rattle.std.proofs.Common.{◌≡◌, ℕ, suc, ◌-◌, ◌/◌, ◌%◌, ◌<◌, true, List, length, get_or, sym, ap, ◌∙◌, arith}
use Rattle.numbers.proofs.Returning.{carried, somewhere}
use Rattle.chart.specs.Automata.{Automaton, Limits}
use Rattle.graph.specs.Walks.{MarkedCycle}
use Rattle.graph.proofs.Loops.{Goes, loop_cycle}
use Rattle.graph.proofs.Rounds.{GoesAlong, cycle_round, spot, spot_laps, spot_place, spot_state}
use Rattle.lasso.specs.Positions.{IsLasso, place, after}
use Rattle.lasso.specs.Words.{Takes, letter}
use Rattle.lasso.proofs.Places.{place_below, place_next, place_zero}
use Rattle.member.specs.Bounds.{Node, edge_true}
use Rattle.member.specs.Maps.{word_graph}
use Rattle.member.proofs.Along.{edge_from, marked_from, marked_true, start_from, start_true}

module _ (m : Automaton) (word : List ℕ) (stem : ℕ) (lasso : IsLasso (length word) stem) where
  along : GoesAlong (word_graph m word stem) m (λ p. get_or word p 0) (length word) stem
  along =
      record {
        starts = λ v e. let a = start_true m word stem v e in (a.1, a.2);
        marks = marked_true m word stem;
        edges = λ v l w e. let a = edge_true m word stem v l w e in (a.letter, a.place, a.step);
      }

  pub word_cycle_takes : MarkedCycle (word_graph m word stem) → Takes m word stem
  word_cycle_takes c =
      let r = cycle_round (word_graph m word stem) m (λ p. get_or word p 0) (length word) stem lasso.loops along c in
      record { run = r.run; starts = r.starts; back = r.back; steps = r.steps }

  module _ (h : Limits m) (t : Takes m word stem) where
    -- the node of position k
    at : ℕ → ℕ
    at k = spot (length word) stem k (t.run k)

    run_below : (k : ℕ) → k < t.back.to → t.run k < m.states
    run_below k low = (h.steps (t.run k) (letter word stem k) (t.run (suc k)) (t.steps k low)).0

    next_below : (k : ℕ) → k < t.back.to → t.run (suc k) < m.states
    next_below k low = (h.steps (t.run k) (letter word stem k) (t.run (suc k)) (t.steps k low)).2

    at_place : (k : ℕ) → t.run k < m.states → at k / 32 ≡ place (length word) stem k
    unfolding at
    at_place k b = spot_place (length word) stem k (t.run k) (omega (arith, h.size.few_states))

    at_state : (k : ℕ) → t.run k < m.states → at k % 32 ≡ t.run k
    unfolding at
    at_state k b = spot_state (length word) stem k (t.run k) (omega (arith, h.size.few_states))

    at_node : (k : ℕ) → t.run k < m.states → Node m word stem (at k)
    at_node k b =
        record {
          lasso = lasso;
          place = rw (at_place k b) (place_below (length word) stem k lasso.loops);
          state = rw (at_state k b) b;
        }

    at_edge : (k : ℕ) → k < t.back.to → Goes (word_graph m word stem) at (letter word stem) k
    at_edge k low =
        let b = run_below k low in
        let d = next_below k low in (
          (h.steps (t.run k) (letter word stem k) (t.run (suc k)) (t.steps k low)).1,
          edge_from m word stem (at k) (letter word stem k) (at (suc k)) (record {
            node = at_node k b;
            letter = ap (λ x. get_or word x 0) (sym (at_place k b));
            place = at_place (suc k) d ∙ (place_next (length word) stem k lasso.loops ∙ ap (after (length word) stem) (sym (at_place k b)));
            step = rw (at_state k b, at_state (suc k) d) (t.steps k low);
          }),
        )

    at_closes : at t.back.from ≡ at t.back.to
    unfolding at
    at_closes =
        spot_laps (length word) stem t.back.from t.back.to t.back.apart.0 (t.run t.back.from) (t.run t.back.to) lasso.loops t.back.late (omega (arith, t.back.goes)) t.back.apart.1 t.back.closes

    pub takes_word_cycle : MarkedCycle (word_graph m word stem)
    takes_word_cycle =
        let start = run_below 0 (omega (arith, t.back.goes)) in
        loop_cycle (word_graph m word stem) (record {
          at = at;
          by = letter word stem;
          starts =
              start_from m word stem (at 0) (at_node 0 start) (at_place 0 start ∙ place_zero (length word) stem lasso.loops)
              (rw (at_state 0 start) t.starts);
          back =
              somewhere (carried t.back at (λ k. (word_graph m word stem).marked (at k) ≡ true) stem (length word - stem) t.back.late t.back.apart at_closes
              (λ k h x. let b = run_below k h in marked_from m word stem (at k) (at_node k b) (rw (at_state k b) x)));
          edges = at_edge;
        })
