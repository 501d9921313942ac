-- To take a word is to accept it as an endless word. The run that takes it is itself a lasso: its loop is from the state
-- that it comes back to.
use Rattle.std.proofs.Common.{◌≡◌, ℕ, suc, ◌+◌, ◌-◌, ◌*◌, ◌<◌, ◌≤◌, true, List, length, get_or, sym, ap, ◌∙◌, ⊎_elim, le-mul_of_pos_right, arith}
use Rattle.std.proofs.lemmas.Bool.{cases_lt}
use Rattle.chart.specs.Automata.{Automaton, Limits}
use Rattle.lasso.specs.Agreement.{TakenIsAccepted}
use Rattle.lasso.specs.Positions.{place}
use Rattle.lasso.specs.Words.{letter, Takes, Accepts}
use Rattle.lasso.proofs.Places.{place_first, place_zero, place_below, place_next, place_laps, place_unrolled, after_next, after_last}
use Rattle.lasso.proofs.Returning.{runs_return}

module _ (m : Automaton) (word : List ℕ) (stem : ℕ) (h : stem < length word) (t : Takes m word stem) where
  -- where the run of position k stands
  spot : ℕ → ℕ
  spot k = place t.back.to t.back.from k

  -- there the word has the same letter
  spot_letter : (k : ℕ) → letter word stem (spot k) ≡ letter word stem k
  unfolding spot
  spot_letter k =
      ap (λ x. get_or word x 0) (place_unrolled (length word) stem t.back.from t.back.to t.back.apart.0 k h t.back.late t.back.goes t.back.apart.1)

  -- and the next state is that of the next spot
  spot_next : (k : ℕ) → t.run (suc (spot k)) ≡ t.run (spot (suc k))
  unfolding spot
  spot_next k =
      let e = place_next t.back.to t.back.from k t.back.goes in
      ⊎_elim (λ (inner : suc (spot k) < t.back.to). ap t.run (sym (e ∙ after_next t.back.to t.back.from (spot k) inner)))
      (λ (outer : t.back.to ≤ suc (spot k)).
      let last : suc (spot k) ≡ t.back.to = omega (arith, place_below t.back.to t.back.from k t.back.goes) in
      ap t.run last ∙ (sym t.back.closes ∙ ap t.run (sym (e ∙ after_last t.back.to t.back.from (spot k) outer))))
      (cases_lt (suc (spot k)) t.back.to)

  spot_below : (k : ℕ) → spot k < t.back.to
  unfolding spot
  spot_below k = place_below t.back.to t.back.from k t.back.goes

  -- so many laps later the run passes its marked state again
  spot_again : (k : ℕ) → (i : ℕ) × (k ≤ i) × (m.mark (t.run (spot i)) ≡ true)
  unfolding spot
  spot_again k =
      let q = t.back.passes.0 in
      let loop = t.back.to - t.back.from in
      let far : k ≤ k * loop = le-mul_of_pos_right k (omega (arith, t.back.goes)) in
      let e : spot (q + k * loop) ≡ q =
      place_laps t.back.to t.back.from q k t.back.goes t.back.passes.1 ∙ place_first t.back.to t.back.from q t.back.passes.2 in
      (q + k * loop, omega (arith, far), ap (λ x. m.mark (t.run x)) e ∙ t.back.passes.3)

  spot_step : (k : ℕ) → m.step (t.run (spot k)) (letter word stem k) (t.run (spot (suc k))) ≡ true
  spot_step k =
      sym (ap (λ x. m.step (t.run (spot k)) x (t.run (spot (suc k)))) (spot_letter k))
      ∙ (sym (ap (λ x. m.step (t.run (spot k)) (letter word stem (spot k)) x) (spot_next k)) ∙ t.steps (spot k) (spot_below k))

pub takes_accepts : (m : Automaton) (word : List ℕ) (stem : ℕ) → stem < length word → Takes m word stem → Accepts m (letter word stem)
unfolding spot
takes_accepts m word stem h t =
    record {
      run = λ k. t.run (spot m word stem h t k);
      starts = ap (λ x. m.start (t.run x)) (place_zero t.back.to t.back.from t.back.goes) ∙ t.starts;
      steps = spot_step m word stem h t;
      again = spot_again m word stem h t;
    }

pub accepts_takes : (m : Automaton) (word : List ℕ) (stem : ℕ) → Limits m → stem < length word → Accepts m (letter word stem) → Takes m word stem
accepts_takes m word stem limits h a =
    record {
      run = a.run;
      starts = a.starts;
      back = runs_return m (letter word stem) limits a stem (length word - stem) (omega arith);
      steps = λ k _. a.steps k;
    }

pub taken_is_accepted : TakenIsAccepted
taken_is_accepted m word stem limits h =
    record { accepted = takes_accepts m word stem h; taken = accepts_takes m word stem limits h }
