-- Nodes and their numbers correspond: each part is read from its own bits.
use Rattle.std.proofs.Common.{◌≡◌, ℕ, zero, suc, ◌+◌, ◌*◌, ◌%◌, ◌^◌, ◌<◌, ◌≤◌, Bool, true, false, ◌&&◌, Option, Some, None, ◌∙◌, ⊎_elim, sym, ap, refl, subst, eqb, ltb, arith}
use Rattle.std.proofs.Math.Nat.{one-mul}
use Rattle.std.proofs.Math.Pow.{pow_mono}
use Rattle.std.proofs.lemmas.Bool.{and_left, and_right, both_ways, cases_lt, false_from_ne_true, false≢true, le-ltb, lt-ltb}
use Rattle.std.proofs.lemmas.Bool.Decides.{nat_tests}
use Rattle.chart.specs.Automata.{Automaton}
use Rattle.rank.specs.Layout.{bits, fields, flag, held, number, parts, rank_held}
use Rattle.rank.specs.Nodes.{Node}
use Rattle.rank.specs.Numbering.{IsNode, NumbersCorrespond}
use Rattle.rank.specs.Ranked.{is_number}
use Rattle.rank.specs.Rules.{has_even, may_have}
use Rattle.rank.proofs.Fields.{bits_above, bits_below, bits_here, field_at, field_beyond, fields_small, first_bits, sum_small}
use Rattle.rank.proofs.Laws.{marked_even, may_have_from, may_have_none, rank_most, top_small}
use Rattle.rank.proofs.Tests.{Valid, edge_holds, marked_number, number_holds, number_test, start_number}

pub flag_small : (b : Bool) → flag b < 2
flag_small true = omega arith
flag_small false = omega arith

flag_read : (b : Bool) → eqb (flag b) 1 ≡ b
flag_read true = refl
flag_read false = refl

pub rank_read : (r : Option ℕ) → rank_held (held r) ≡ r
rank_read None = refl
rank_read (Some r) = refl

-- four bits that hold an odd number tell an even rank
pub odd_even : (r : Option ℕ) → eqb (held r % 2) 1 ≡ has_even r
odd_even None = refl
odd_even (Some r) = grind (arith, nat_tests)

pub even_held : (d : ℕ) → eqb (d % 2) 1 ≡ has_even (rank_held d)
even_held zero = refl
even_held (suc r) = odd_even (Some r)

pub held_read : (d : ℕ) → held (rank_held d) ≡ d
held_read zero = refl
held_read (suc d) = refl

-- The parts of a node for a rule of n states fit their bits.
pub record Fits (n : ℕ) (x : Node) : Type 0 where
  pub few : n ≤ 6
  pub duty : x.duty < 32
  pub ranks : (q : ℕ) → q < n → held (x.rank q) < 16

module _ (n : ℕ) (x : Node) (fits : Fits n x) where
  abbrev owed : ℕ
  owed = fields 1 (λ q. flag (x.owed q)) n

  abbrev ranks : ℕ
  ranks = fields 4 (λ q. held (x.rank q)) n

  -- the bits below the owed set, and those below the ranks
  abbrev first : ℕ
  first = x.duty + flag x.turn * 2 ^ 5

  abbrev lower : ℕ
  lower = first + owed * 2 ^ 6

  first_small : first < 2 ^ 6
  first_small = sum_small x.duty (flag x.turn) 5 1 fits.duty (flag_small x.turn)

  owed_small : owed < 2 ^ (1 * n)
  owed_small = fields_small 1 (λ q. flag (x.owed q)) n (λ q h. flag_small (x.owed q))

  lower_small : lower < 2 ^ 12
  lower_small =
      let few : 1 * n ≤ 6 = omega (arith, fits.few) in
      sum_small first owed 6 6 first_small (omega (arith, owed_small, pow_mono few))

  number_small : number n x < 2 ^ (12 + 4 * n)
  number_small = sum_small lower ranks 12 (4 * n) lower_small (fields_small 4 (λ q. held (x.rank q)) n fits.ranks)

  duty_same : (parts (number n x)).duty ≡ x.duty
  duty_same =
      bits_below lower ranks 12 0 5 (omega arith)
      ∙ (bits_below first owed 6 0 5 (omega arith)
      ∙ (bits_below x.duty (flag x.turn) 5 0 5 (omega arith) ∙ first_bits x.duty 5 fits.duty))

  turn_same : (parts (number n x)).turn ≡ x.turn
  turn_same =
      ap (λ b. eqb b 1)
      (bits_below lower ranks 12 5 1 (omega arith)
      ∙ (bits_below first owed 6 5 1 (omega arith) ∙ bits_here x.duty (flag x.turn) 5 1 fits.duty (flag_small x.turn)))
      ∙ flag_read x.turn

  owed_bit : (q : ℕ) → q < 6 → bits (number n x) (6 + q) 1 ≡ bits owed (1 * q) 1
  owed_bit q h =
      rw (one-mul q)
      (bits_below lower ranks 12 (6 + q) 1 (omega arith) ∙ bits_above first owed 6 q 1 first_small)

  owed_same : (q : ℕ) → q < n → (parts (number n x)).owed q ≡ x.owed q
  owed_same q h =
      let low : q < 6 = omega (arith, fits.few) in
      ap (λ b. b && eqb (bits (number n x) (6 + q) 1) 1) (lt-ltb q 6 low)
      ∙ (ap (λ b. eqb b 1) (owed_bit q low ∙ field_at 1 (λ q. flag (x.owed q)) n q (λ q h. flag_small (x.owed q)) h)
      ∙ flag_read (x.owed q))

  owed_beyond : (q : ℕ) → n ≤ q → (parts (number n x)).owed q ≡ false
  owed_beyond q h =
      ⊎_elim (λ (low : q < 6).
      and_right (ltb q 6) (eqb (bits (number n x) (6 + q) 1) 1)
      (ap (λ b. eqb b 1) (owed_bit q low ∙ field_beyond 1 (λ q. flag (x.owed q)) n q (λ q h. flag_small (x.owed q)) h)))
      (λ high. and_left (ltb q 6) (eqb (bits (number n x) (6 + q) 1) 1) (le-ltb q 6 high))
      (cases_lt q 6)

  rank_bits : (q : ℕ) → bits (number n x) (12 + 4 * q) 4 ≡ bits ranks (4 * q) 4
  rank_bits q = bits_above lower ranks 12 (4 * q) 4 lower_small

  rank_same : (q : ℕ) → q < n → (parts (number n x)).rank q ≡ x.rank q
  rank_same q h = ap rank_held (rank_bits q ∙ field_at 4 (λ q. held (x.rank q)) n q fits.ranks h) ∙ rank_read (x.rank q)

  rank_beyond : (q : ℕ) → n ≤ q → (parts (number n x)).rank q ≡ None
  rank_beyond q h = ap rank_held (rank_bits q ∙ field_beyond 4 (λ q. held (x.rank q)) n q fits.ranks h)

  -- with nothing beyond the rule's states the number tells the whole node
  all_read :
      ((q : ℕ) → n ≤ q → x.rank q ≡ None) → ((q : ℕ) → n ≤ q → x.owed q ≡ false) → parts (number n x) ≡ x
  all_read no_rank none_owed =
      let rank : (q : ℕ) → (parts (number n x)).rank q ≡ x.rank q =
      λ q. ⊎_elim (rank_same q) (λ h. rank_beyond q h ∙ sym (no_rank q h)) (cases_lt q n) in
      let owed : (q : ℕ) → (parts (number n x)).owed q ≡ x.owed q =
      λ q. ⊎_elim (owed_same q) (λ h. owed_beyond q h ∙ sym (none_owed q h)) (cases_lt q n) in
      λ j. record { duty = duty_same j; rank = λ q. rank q j; owed = λ q. owed q j; turn = turn_same j }

-- a rank that is no number is none, and a state may have a rank if it may have the number that the rank is
no_value : (o : Option ℕ) → ((r : ℕ) → o ≡ Some r → ⊥) → o ≡ None
no_value None none = refl
no_value (Some r) none = absurd (none r refl)

rank_may : (b : Automaton) (q : ℕ) (o : Option ℕ) → ((r : ℕ) → o ≡ Some r → may_have b q (Some r) ≡ true) → may_have b q o ≡ true
rank_may b q None may = may_have_none b q
rank_may b q (Some r) may = may r refl

module _ (a b : Automaton) (few_duty : a.states ≤ 32) (few_rule : b.states ≤ 6) where
  held_small : (q : ℕ) (r : Option ℕ) → may_have b q r ≡ true → held r < 16
  held_small q None e = omega arith
  held_small q (Some r) e = omega (arith, rank_most b q r e, top_small b few_rule)

  pub node_fits : (x : Node) → Valid a b x → Fits b.states x
  node_fits x v =
      record { few = few_rule; duty = omega (arith, v.duty); ranks = λ q h. held_small q (x.rank q) (v.ranks q h) }

  small : (v : ℕ) → is_number a b v ≡ true → v < 2 ^ (12 + 4 * b.states)
  small v e =
      let n = number_holds a b v e in
      subst (λ w. w < 2 ^ (12 + 4 * b.states)) (sym n.same) (number_small b.states (parts v) (node_fits (parts v) n.valid))

  -- the tests say what it is to be a node, of parts with nothing beyond the rule's states
  valid_is : (x : Node) → Valid a b x → ((q : ℕ) → b.states ≤ q → x.rank q ≡ None) → ((q : ℕ) → b.states ≤ q → x.owed q ≡ false) → IsNode a b x
  valid_is x v no_rank none_owed =
      record {
        duty = v.duty;
        ranks =
            λ q r e. ⊎_elim (λ (h : q < b.states). let may = subst (λ o. may_have b q o ≡ true) e (v.ranks q h) in
            (h, rank_most b q r may, marked_even b q r may))
            (λ beyond. absurd (cc (no_rank q beyond, e))) (cases_lt q b.states);
        owed =
            λ q o. ⊎_elim (λ (h : q < b.states). v.owed q h o) (λ beyond. absurd (both_ways (x.owed q) (none_owed q beyond) o))
            (cases_lt q b.states);
      }

  is_valid : (x : Node) → IsNode a b x → Valid a b x
  is_valid x n =
      record {
        duty = n.duty;
        ranks = λ q h. rank_may b q (x.rank q) (λ r e. let k = n.ranks q r e in may_have_from b q r k.1 k.2);
        owed = λ q h. n.owed q;
      }

  none_beyond : (x : Node) → IsNode a b x → (q : ℕ) → b.states ≤ q → x.rank q ≡ None
  none_beyond x n q h = no_value (x.rank q) (λ r e. omega (arith, (n.ranks q r e).0))

  of_number : (v : ℕ) → is_number a b v ≡ true → IsNode a b (parts v) × (number b.states (parts v) ≡ v)
  of_number v e =
      let n = number_holds a b v e in
      let fits = node_fits (parts v) n.valid in (
        valid_is (parts v) n.valid (λ q h. subst (λ w. (parts w).rank q ≡ None) (sym n.same) (rank_beyond b.states (parts v) fits q h))
            (λ q h. subst (λ w. (parts w).owed q ≡ false) (sym n.same) (owed_beyond b.states (parts v) fits q h)),
        sym n.same,
      )

  of_node : (x : Node) → IsNode a b x → (is_number a b (number b.states x) ≡ true) × (parts (number b.states x) ≡ x)
  of_node x node =
      let v = number b.states x in
      let valid = is_valid x node in
      let no_rank = none_beyond x node in
      let none_owed : (q : ℕ) → b.states ≤ q → x.owed q ≡ false =
      λ q h. false_from_ne_true (x.owed q) (λ o. false≢true (subst (λ r. has_even r ≡ true) (no_rank q h) (node.owed q o))) in
      let read = all_read b.states x (node_fits x valid) no_rank none_owed in
      (number_test a b v (record { same = ap (number b.states) (sym read); valid = subst (Valid a b) (sym read) valid }), read)

pub numbers_correspond : NumbersCorrespond
numbers_correspond a b charts =
    let small = small a b charts.duty.size.few_states charts.few_states in
    record {
      small = small;
      of_number = of_number a b charts.duty.size.few_states charts.few_states;
      of_node = of_node a b charts.duty.size.few_states charts.few_states;
      bounded =
          record {
            few_letters = omega (arith, charts.duty.size.few_letters);
            nodes = λ v e. let few : 12 + 4 * b.states ≤ 64 = omega arith in omega (arith, small v e, pow_mono few);
            starts = start_number a b;
            marks = marked_number a b;
            edges = λ v l w e. let x = edge_holds a b v l w e in (x.from, x.letter, x.to);
          };
    }
