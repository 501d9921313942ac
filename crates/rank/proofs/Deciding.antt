-- The ranked graph decides containment: what its walks, lassos and measures tell of the words of the two charts.
use Rattle.std.proofs.Common.{ℕ, ◌+◌, ◌*◌, ◌^◌, ◌<◌, List, length, get_or, ⊎_elim}
use Rattle.chart.specs.Automata.{Automaton}
use Rattle.graph.specs.Walks.{MarkedCycle}
use Rattle.graph.specs.Witnesses.{MarkedLasso}
use Rattle.graph.proofs.Falling.{falling_none}
use Rattle.graph.proofs.Loops.{cycle_loop}
use Rattle.graph.proofs.Unrolled.{lasso_walk, loop_word, walk_cycle, word_known, word_lasso}
use Rattle.lasso.specs.Positions.{place}
use Rattle.lasso.specs.Words.{letter, Accepts}
use Rattle.lasso.proofs.Agreeing.{accepts_takes, takes_accepts}
use Rattle.rank.specs.Complement.{AcceptedAlone, AcceptedLow, RankedComplements, ranked}
use Rattle.rank.specs.Containment.{Charts, Included, CyclesDecide, Differs, LassosTell, MeasuresTell, TakenAlone, TakingIsDecided}
use Rattle.rank.specs.Ranked.{ranked_graph}
use Rattle.rank.specs.Subsets.{level, size}
use Rattle.rank.proofs.Complete.{complete, complete_low}
use Rattle.rank.proofs.Folding.{decided, repetition}
use Rattle.rank.proofs.Numbers.{numbers_correspond}
use Rattle.rank.proofs.OddRankings.{odd_ranking}
use Rattle.rank.proofs.Sound.{sound}
use Rattle.rank.proofs.Subsets.{size_top}

pub taking_is_decided : TakingIsDecided
taking_is_decided m limits word stem h =
    let r = repetition m limits word stem h in
    decided m limits word stem r.0 r.1 h r.2

module _ (a b : Automaton) (charts : Charts a b) where
  accepted_low : (word : List ℕ) (stem : ℕ) → stem < length word → AcceptedAlone a b (letter word stem) → AcceptedLow a b (letter word stem)
  accepted_low word stem h accepted =
      let r = repetition b charts.rule word stem h in
      let width = size b (level b (letter word stem) r.0) in
      let odd = odd_ranking b charts.rule word stem r.0 r.1 h r.2 (λ t. accepted.rejected (takes_accepts b word stem h t)) in
      let fits = size_top b (letter word stem) r.0 in
      record {
        walk = complete a b charts (letter word stem) width fits accepted.accepted odd;
        position = r.0;
        low = complete_low a b charts (letter word stem) width fits accepted.accepted odd;
      }

  -- what the ranked graph accepts of repeating words
  accepted_alone : (word : List ℕ) (stem : ℕ) → stem < length word → Accepts (ranked a b) (letter word stem) → TakenAlone a b word stem
  accepted_alone word stem h w =
      let s = sound a b charts.rule (letter word stem) w in
      record {
        taken = accepts_takes a word stem charts.duty h s.accepted;
        rejected = λ t. s.rejected (takes_accepts b word stem h t);
      }

  lasso_alone : (node : ℕ → ℕ) (word : List ℕ) (stem : ℕ) → MarkedLasso (ranked_graph a b) node (λ k. get_or word k 0) (length word) stem → TakenAlone a b word stem
  lasso_alone node word stem m =
      let w = lasso_walk (ranked_graph a b) node (λ k. get_or word k 0) (length word) stem m in
      accepted_alone word stem m.loops (record {
        run = λ k. node (place (length word) stem k);
        starts = w.starts;
        steps = w.edges;
        again = w.again;
      })

  alone_cycle : (word : List ℕ) (stem : ℕ) → stem < length word → TakenAlone a b word stem → MarkedCycle (ranked_graph a b)
  alone_cycle word stem h alone =
      let numbers = numbers_correspond a b charts in
      let accepted : AcceptedAlone a b (letter word stem) =
      record { accepted = takes_accepts a word stem h alone.taken; rejected = λ x. alone.rejected (accepts_takes b word stem charts.rule h x) } in
      let w = (accepted_low word stem h accepted).walk in
      walk_cycle (ranked_graph a b) numbers.bounded (2 ^ (12 + 4 * b.states)) numbers.small w.run (letter word stem)
      (record { starts = w.starts; edges = w.steps; again = w.again })

  cycle_differs : MarkedCycle (ranked_graph a b) → Differs a b
  cycle_differs c =
      let g = ranked_graph a b in
      let l = cycle_loop g c in
      let m = word_lasso g l in
      record {
        word = loop_word g l;
        stem = l.back.from;
        loops = m.loops;
        known = word_known g l;
        alone = lasso_alone l.at (loop_word g l) l.back.from m;
      }

  none_includes : (MarkedCycle (ranked_graph a b) → ⊥) → Included a b
  none_includes none word stem h taken =
      ⊎_elim (λ both. both)
      (λ rejected. absurd (none (alone_cycle word stem h (record { taken = taken; rejected = rejected }))))
      (taking_is_decided b charts.rule word stem h)

pub lassos_tell : LassosTell
lassos_tell a b charts node word stem m = lasso_alone a b charts node word stem m

pub cycles_decide : CyclesDecide
cycles_decide a b charts =
    record {
      exactly = (cycle_differs a b charts, λ d. alone_cycle a b charts d.word d.stem d.loops d.alone);
      included = none_includes a b charts;
    }

pub measures_tell : MeasuresTell
measures_tell a b charts node measure count f =
    let none = falling_none (ranked_graph a b) node measure count f in (none, none_includes a b charts none)

pub ranked_complements : RankedComplements
ranked_complements a b charts =
    record { only = λ word w. sound a b charts.rule word w; every = accepted_low a b charts }
