-- Sets and rows that answer as an automaton within the limits of charts are that automaton.
use Rattle.std.proofs.Common.{◌≡◌, ℕ, ◌+◌, ◌*◌, ◌/◌, ◌%◌, ◌<◌, ◌≤◌, true, false, ◌&&◌, ltb, List, length, get_or, sym, ap, ◌∙◌, subst, ⊎_elim, arith}
use Rattle.std.proofs.lemmas.Bool.{and_left, cases_lt, false_from_ne_true, le-ltb, lt-ltb}
use Rattle.std.proofs.lemmas.List.{get_or_past}
use Rattle.chart.specs.Automata.{Automaton, Limits}
use Rattle.chart.specs.Kinds.{rowwise}
use Rattle.numbers.specs.Bits.{bit}
use Rattle.numbers.proofs.Bits.{none_false}

module _ (m : Automaton) (limits : Limits m) (n k s t : ℕ) (rows : List ℕ) (long : length rows ≡ 512) (states : n ≡ m.states) (letters : k ≡ m.letters)
    (starts : (q : ℕ) → bit s q ≡ m.start q) (marks : (q : ℕ) → bit t q ≡ m.mark q)
    (steps : (j q : ℕ) → j < 512 → bit (get_or rows j 0) q ≡ m.step (j / 16) (j % 16) q) where
  -- outside the limits there is no step
  no_step : (p i q : ℕ) → (m.step p i q ≡ true → ⊥) → m.step p i q ≡ false
  no_step p i q = false_from_ne_true (m.step p i q)

  row_of : (p i q : ℕ) → i < 16 → bit (get_or rows (p * 16 + i) 0) q ≡ m.step p i q
  row_of p i q h =
      ⊎_elim
      (λ (low : p < 32). let place : (p * 16 + i) / 16 ≡ p = omega arith in
      let rest : (p * 16 + i) % 16 ≡ i = omega arith in
      steps (p * 16 + i) q (omega arith) ∙ (ap (λ x. m.step x ((p * 16 + i) % 16) q) place ∙ ap (λ x. m.step p x q) rest))
      (λ (high : 32 ≤ p). let past : length rows ≤ p * 16 + i = omega arith in
      ap (λ x. bit x q) (get_or_past rows (p * 16 + i) 0 past) ∙ none_false q
      ∙ sym (no_step p i q (λ e. omega (arith, (limits.steps p i q e).0, limits.size.few_states))))
      (cases_lt p 32)

  step_of : (p i q : ℕ) → (ltb i k && bit (get_or rows (p * 16 + i) 0) q) ≡ m.step p i q
  step_of p i q =
      ⊎_elim
      (λ (low : i < k). ap (λ b. b && bit (get_or rows (p * 16 + i) 0) q) (lt-ltb i k low)
      ∙ row_of p i q (omega (arith, limits.size.few_letters)))
      (λ (high : k ≤ i). and_left (ltb i k) (bit (get_or rows (p * 16 + i) 0) q) (le-ltb i k high)
      ∙ sym (no_step p i q (λ e. omega (arith, (limits.steps p i q e).1))))
      (cases_lt i k)

  pub rows_same : rowwise n k 16 s t rows ≡ m
  rows_same =
      λ j. record {
        states = states j;
        letters = letters j;
        start = λ q. starts q j;
        mark = λ q. marks q j;
        step = λ p i q. step_of p i q j;
      }

  pub rows_limits : Limits (rowwise n k 16 s t rows)
  rows_limits = subst Limits (sym rows_same) limits
