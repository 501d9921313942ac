-- Choices for the parts of nodes tell exactly the numbers of the nodes with such parts.
use Rattle.std.proofs.Common.{◌≡◌, ℕ, zero, suc, ◌+◌, ◌-◌, ◌*◌, ◌/◌, ◌%◌, ◌^◌, ◌<◌, ◌≤◌, Bool, true, ◌&&◌, eqb, leb, get_or, Option, Some, None, refl, sym, ap, ◌∙◌, subst, ⊎_elim, arith}
use Rattle.std.proofs.Math.Pow.{pow_mono}
use Rattle.std.proofs.lemmas.Bool.{and_from, and_parts, cases_lt, le-leb, leb-true}
use Rattle.chart.specs.Automata.{Automaton}
use Rattle.numbers.specs.Bits.{bit}
use Rattle.rank.specs.Containment.{Charts}
use Rattle.rank.specs.Layout.{fields, flag, held, number, parts, rank_held}
use Rattle.rank.specs.Nodes.{Node}
use Rattle.rank.specs.Numbering.{IsNode}
use Rattle.rank.specs.Ranked.{is_number}
use Rattle.rank.specs.Rules.{has_even, may_have}
use Rattle.rank.proofs.Fields.{field_at, field_beyond, fields_like, fields_own, fields_small, fields_zeros, no_bits}
use Rattle.rank.proofs.Laws.{marked_even, may_have_none, rank_most}
use Rattle.rank.proofs.Numbers.{Fits, even_held, flag_small, held_read, node_fits, numbers_correspond, odd_even, rank_read}
use Rattle.rank.proofs.Tests.{Valid, number_holds}
use Rattle.ranked.specs.declared.choices.Choices.{Choices}
use Rattle.ranked.specs.Choices.{chosen, owed, rest, upper}
use Rattle.ranked.specs.Digits.{digit, drawn}
use Rattle.ranked.specs.Offers.{Offers}
use Rattle.ranked.proofs.Numerals.{drawn_at, drawn_from, drawn_small}

-- x has parts that pass
pub record Passes (b : Automaton) (rank : ℕ → Option ℕ → Bool) (owes : ℕ → Bool) (turn : Bool) (duty : ℕ → Bool) (x : Node) : Type 0 where
  pub states : duty x.duty ≡ true
  pub ranks : (q : ℕ) → q < b.states → rank q (x.rank q) ≡ true
  pub owing : (q : ℕ) → q < b.states → x.owed q ≡ (has_even (x.rank q) && owes q)
  pub same_turn : x.turn ≡ turn

module _ (a b : Automaton) (charts : Charts a b) (rank : ℕ → Option ℕ → Bool) (owes : ℕ → Bool) (turn : Bool) (duty : ℕ → Bool)
    (no_rank : (q : ℕ) → b.states ≤ q → rank q None ≡ true)
    (only_none : (q r : ℕ) → b.states ≤ q → rank q (Some r) ≡ true → ⊥)
    (states : (q : ℕ) → duty q ≡ true → q < a.states)
    (c : Choices) (o : Offers b rank owes turn duty c) where
  few : b.states ≤ 6
  few = charts.few_states

  -- a node with parts that pass
  module _ (x : Node) (v : Valid a b x) (p : Passes b rank owes turn duty x) where
    abbrev ranks_of : ℕ → ℕ
    ranks_of q = held (x.rank q)

    abbrev ranks : ℕ
    ranks = fields 4 ranks_of b.states

    abbrev set_of : ℕ → ℕ
    set_of q = flag (x.owed q)

    abbrev set : ℕ
    set = fields 1 set_of b.states

    fits : Fits b.states x
    fits = node_fits a b charts.duty.size.few_states few x v

    set_small : set < 64
    set_small =
        let le : 1 * b.states ≤ 6 = omega (arith, few) in
        omega (arith, fields_small 1 set_of b.states (λ q h. flag_small (x.owed q)), pow_mono le)

    ranks_small : ranks < 2 ^ 24
    ranks_small =
        let le : 4 * b.states ≤ 24 = omega (arith, few) in omega (arith, fields_small 4 ranks_of b.states fits.ranks, pow_mono le)

    digit_in : (q : ℕ) → q < b.states → digit ranks q ≡ held (x.rank q)
    digit_in q h = field_at 4 ranks_of b.states q fits.ranks h

    digit_out : (q : ℕ) → b.states ≤ q → digit ranks q ≡ 0
    digit_out q h = field_beyond 4 ranks_of b.states q fits.ranks h

    offered : (q : ℕ) → q < 6 → (r : Option ℕ) → held r < 16 → may_have b q r ≡ true → rank q r ≡ true → bit (get_or c.digits q 0) (held r) ≡ true
    offered q low r small may passes =
        o.ranks q (held r) low small ∙ ap (λ t. may_have b q t && rank q t) (rank_read r) ∙ and_from (may_have b q r) (rank q r) may passes

    digits_drawn : drawn c.digits 6 ranks ≡ true
    digits_drawn =
        drawn_from c.digits 6 ranks ranks_small
        (λ q low. ⊎_elim
        (λ (h : q < b.states). subst (λ d. bit (get_or c.digits q 0) d ≡ true) (sym (digit_in q h))
        (offered q low (x.rank q) (fits.ranks q h) (v.ranks q h) (p.ranks q h)))
        (λ (h : b.states ≤ q). subst (λ d. bit (get_or c.digits q 0) d ≡ true) (sym (digit_out q h))
        (offered q low None (omega arith) (may_have_none b q) (no_rank q h)))
        (cases_lt q b.states))

    abbrev owed_at : ℕ → ℕ
    owed_at q = flag (eqb (digit ranks q % 2) 1 && bit c.owing q)

    owed_in : (q : ℕ) → q < b.states → owed_at q ≡ set_of q
    owed_in q h =
        ap flag
        (ap (λ d. eqb (d % 2) 1 && bit c.owing q) (digit_in q h)
        ∙ (ap (λ t. t && bit c.owing q) (odd_even (x.rank q)) ∙ (ap (λ t. has_even (x.rank q) && t) (o.owing q h) ∙ sym (p.owing q h))))

    owed_out : (q : ℕ) → b.states ≤ q → owed_at q ≡ 0
    owed_out q h = ap (λ d. flag (eqb (d % 2) 1 && bit c.owing q)) (digit_out q h)

    owed_set : owed c ranks ≡ set
    owed_set =
        let all : 6 - b.states + b.states ≡ 6 = omega (arith, few) in
        ap (fields 1 owed_at) (sym all) ∙ (fields_zeros 1 owed_at b.states (6 - b.states) owed_out ∙ fields_like 1 owed_at set_of b.states owed_in)

    upper_is : upper c ranks ≡ set * 64 + flag x.turn * 32
    upper_is =
        ap (λ s. s * 64 + flag c.turn * 32) owed_set ∙ ap (λ t. set * 64 + flag t * 32) (o.same_turn ∙ sym p.same_turn)

    passes_rest : (r : ℕ) → r ≡ x.duty + (set * 64 + flag x.turn * 32) → rest c ranks r ≡ true
    passes_rest r e =
        let is : upper c ranks ≤ r = omega (arith, upper_is) in
        let state : r - upper c ranks ≡ x.duty = omega (arith, upper_is) in
        and_from (leb (upper c ranks) r) (bit c.duty (r - upper c ranks)) (le-leb (upper c ranks) r is)
        (subst (λ q. bit c.duty q ≡ true) (sym state) (o.states x.duty ∙ p.states))

    passes_number : (w : ℕ) → w ≡ number b.states x → chosen c w ≡ true
    passes_number w e =
        let top : w / 4096 ≡ ranks = omega (arith, fits.duty, set_small, flag_small x.turn) in
        let low : w % 4096 ≡ x.duty + (set * 64 + flag x.turn * 32) = omega (arith, fits.duty, set_small, flag_small x.turn) in
        and_from (drawn c.digits 6 (w / 4096)) (rest c (w / 4096) (w % 4096)) (subst (λ f. drawn c.digits 6 f ≡ true) (sym top) digits_drawn)
        (subst (λ f. rest c f (w % 4096) ≡ true) (sym top) (passes_rest (w % 4096) low))

  pub passes_chosen : (w : ℕ) → is_number a b w ≡ true → Passes b rank owes turn duty (parts w) → chosen c w ≡ true
  passes_chosen w e p = let num = number_holds a b w e in passes_number (parts w) num.valid p w num.same

  -- a chosen number is that of a node with such parts
  module _ (w : ℕ) (e : chosen c w ≡ true) where
    abbrev f : ℕ
    f = w / 4096

    abbrev r : ℕ
    r = w % 4096

    abbrev d : ℕ
    d = r - upper c f

    chosen_drawn : drawn c.digits 6 f ≡ true
    chosen_drawn = (and_parts (drawn c.digits 6 f) (rest c f r) e).0

    chosen_rest : (upper c f ≤ r) × (bit c.duty d ≡ true)
    chosen_rest =
        let p = and_parts (leb (upper c f) r) (bit c.duty d) (and_parts (drawn c.digits 6 f) (rest c f r) e).1 in
        (leb-true (upper c f) r p.0, p.1)

    state : duty d ≡ true
    state = sym (o.states d) ∙ chosen_rest.1

    abbrev rank_of : ℕ → Option ℕ
    rank_of q = rank_held (digit f q)

    abbrev owed_of : ℕ → Bool
    owed_of q = eqb (digit f q % 2) 1 && bit c.owing q

    abbrev y : Node
    y = record { duty = d; rank = rank_of; owed = owed_of; turn = c.turn }

    f_small : f < 2 ^ 24
    f_small = drawn_small c.digits 6 f chosen_drawn

    digit_fits : (q : ℕ) → digit f q < 16
    digit_fits q = omega arith

    digit_offered : (q : ℕ) → q < 6 → (may_have b q (rank_of q) ≡ true) × (rank q (rank_of q) ≡ true)
    digit_offered q low =
        and_parts (may_have b q (rank_of q)) (rank q (rank_of q))
        (sym (o.ranks q (digit f q) low (digit_fits q)) ∙ drawn_at c.digits 6 f chosen_drawn q low)

    none_only : (q k : ℕ) → b.states ≤ q → rank q (rank_held k) ≡ true → k ≡ 0
    none_only q zero h passes = refl
    none_only q (suc k) h passes = absurd (only_none q k h passes)

    digit_beyond : (q : ℕ) → b.states ≤ q → digit f q ≡ 0
    digit_beyond q h =
        ⊎_elim (λ (low : q < 6). none_only q (digit f q) h (digit_offered q low).1)
        (λ (high : 6 ≤ q). let le : 24 ≤ 4 * q = omega arith in no_bits f (4 * q) 4 (omega (arith, f_small, pow_mono le)))
        (cases_lt q 6)

    rank_in : (q s : ℕ) → rank_of q ≡ Some s → q < b.states
    rank_in q s is =
        ⊎_elim (λ (h : q < b.states). h)
        (λ (h : b.states ≤ q). absurd (let none : None ≡ Some s = sym (ap rank_held (digit_beyond q h)) ∙ is in cc))
        (cases_lt q b.states)

    is_node_y : IsNode a b y
    is_node_y =
        record {
          duty = states d state;
          ranks =
              λ q s is. let h = rank_in q s is in
              let may = subst (λ t. may_have b q t ≡ true) is (digit_offered q (omega (arith, few))).0 in
              (h, rank_most b q s may, marked_even b q s may);
          owed = λ q t. let odd = (and_parts (eqb (digit f q % 2) 1) (bit c.owing q) t).0 in sym (even_held (digit f q)) ∙ odd;
        }

    y_number : number b.states y ≡ w
    y_number =
        let all : 6 - b.states + b.states ≡ 6 = omega (arith, few) in
        let ranks_are : fields 4 (λ q. held (rank_of q)) b.states ≡ f =
        fields_like 4 (λ q. held (rank_of q)) (digit f) b.states (λ q h. held_read (digit f q))
        ∙ (sym (fields_zeros 4 (digit f) b.states (6 - b.states) digit_beyond) ∙ (ap (fields 4 (digit f)) all ∙ fields_own 4 f 6 f_small)) in
        let set_is : fields 1 (λ q. flag (owed_of q)) b.states ≡ owed c f =
        sym (fields_zeros 1 (λ q. flag (owed_of q)) b.states (6 - b.states)
        (λ q h. ap (λ k. flag (eqb (k % 2) 1 && bit c.owing q)) (digit_beyond q h)))
        ∙ ap (fields 1 (λ q. flag (owed_of q))) all in
        omega (arith, ranks_are, set_is, chosen_rest.0)

    passes_y : Passes b rank owes turn duty y
    passes_y =
        record {
          states = state;
          ranks = λ q h. (digit_offered q (omega (arith, few))).1;
          owing =
              λ q h. ap (λ t. t && bit c.owing q) (even_held (digit f q)) ∙ ap (λ t. has_even (rank_of q) && t) (o.owing q h);
          same_turn = o.same_turn;
        }

    pub chosen_passes : (is_number a b w ≡ true) × Passes b rank owes turn duty (parts w)
    chosen_passes =
        let known = (numbers_correspond a b charts).of_node y is_node_y in
        subst (λ v. (is_number a b v ≡ true) × Passes b rank owes turn duty (parts v)) y_number
        (known.0, subst (Passes b rank owes turn duty) (sym known.1) passes_y)
