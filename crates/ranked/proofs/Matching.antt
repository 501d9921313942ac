-- The choices for starts, for a node itself and for its successors tell exactly these.
use Rattle.std.proofs.Common.{◌≡◌, ℕ, ◌<◌, ◌≤◌, Bool, true, false, ◌&&◌, ◌||◌, eqb, Option, Some, None, is_some, refl, sym, ◌∙◌, subst, arith}
use Rattle.std.proofs.lemmas.Bool.{and_from, and_parts, and_right, both_ways, eq-eqb, eqb-true, false_from_ne_true, false≢true, le-ltb, lt-ltb}
use Rattle.chart.specs.Automata.{Automaton}
use Rattle.rank.specs.Containment.{Charts}
use Rattle.rank.specs.Layout.{parts}
use Rattle.rank.specs.Nodes.{Node}
use Rattle.rank.specs.Ranked.{is_number, ranked_graph}
use Rattle.rank.specs.Rules.{follows, has_even, is_empty, is_first_rank, is_next_rank, next_turn}
use Rattle.rank.proofs.Implied.{alike}
use Rattle.rank.proofs.Laws.{empty_from, empty_none, first_none, first_start, follows_some, next_follows, next_none}
use Rattle.rank.proofs.Tests.{edge_holds, edge_test, first_holds, first_test, number_holds, start_number}
use Rattle.ranked.specs.declared.choices.Choices.{Choices}
use Rattle.ranked.specs.Choices.{chosen}
use Rattle.ranked.specs.Offered.{is_within, StartsOffered, NodeOffered, NextOffered}
use Rattle.ranked.proofs.Offering.{chosen_passes, passes_chosen}

module _ (a b : Automaton) (charts : Charts a b) (c : Choices) where
  -- starts: a state beyond the rule's is none of its starts
  module _ (o : StartsOffered a b c) where
    no_start : (q : ℕ) → b.states ≤ q → b.start q ≡ false
    no_start q h = false_from_ne_true (b.start q) (λ s. omega (arith, charts.rule.starts q s))

    first_only_none : (q r : ℕ) → b.states ≤ q → is_first_rank b q (Some r) ≡ true → ⊥
    first_only_none q r h e = both_ways (b.start q) (no_start q h) (first_start b q r e)

    pub starts_chosen : (w : ℕ) → chosen c w ≡ (ranked_graph a b).start w
    starts_chosen w =
        let none = λ (q : ℕ) (h : b.states ≤ q). first_none b q (no_start q h) in
        alike (chosen c w) ((ranked_graph a b).start w)
        (λ e. let p = chosen_passes a b charts (is_first_rank b) (λ q. false) false a.start none first_only_none charts.duty.starts c o w e in
        first_test a b w p.0 (record {
          duty = p.1.states;
          ranks = p.1.ranks;
          owed =
              empty_from b (parts w).owed
              (λ q h t. both_ways ((parts w).owed q) (p.1.owing q h ∙ and_right (has_even ((parts w).rank q)) false refl) t);
          turn = p.1.same_turn;
        }))
        (λ e. let s = first_holds a b w e in
        passes_chosen a b charts (is_first_rank b) (λ q. false) false a.start none first_only_none charts.duty.starts c o w (start_number a b w e) (record {
          states = s.duty;
          ranks = s.ranks;
          owing =
              λ q h. false_from_ne_true ((parts w).owed q) (empty_none b (parts w).owed q s.owed h)
              ∙ sym (and_right (has_even ((parts w).rank q)) false refl);
          same_turn = s.turn;
        }))

  -- successors of v by letter l
  module _ (v l : ℕ) (n : is_number a b v ≡ true) (low : l < a.letters) (o : NextOffered a b (parts v) l c) where
    abbrev x : Node
    x = parts v

    abbrev may : ℕ → Option ℕ → Bool
    may = is_next_rank b x.rank l

    abbrev owes : ℕ → Bool
    owes q = is_empty b x.owed || follows b x.owed l q

    next_no_rank : (q : ℕ) → b.states ≤ q → may q None ≡ true
    next_no_rank q h = next_none b x.rank l q (λ p s is step. omega (arith, (charts.rule.steps p l q step).2))

    next_only_none : (q r : ℕ) → b.states ≤ q → may q (Some r) ≡ true → ⊥
    next_only_none q r h e =
        let f = follows_some b (λ p. is_some (x.rank p)) l q (next_follows b x.rank l q r e) in
        omega (arith, (charts.rule.steps f.0 l q f.3).2)

    state : (q : ℕ) → a.step x.duty l q ≡ true → q < a.states
    state q s = (charts.duty.steps x.duty l q s).2

    pub next_chosen : (w : ℕ) → chosen c w ≡ (ranked_graph a b).edge v l w
    next_chosen w =
        alike (chosen c w) ((ranked_graph a b).edge v l w)
        (λ e. let p = chosen_passes a b charts may owes (next_turn a b x) (a.step x.duty l) next_no_rank next_only_none state c o w e in
        edge_test a b v l w (record {
          from = n;
          letter = low;
          to = p.0;
          step = record { duty = p.1.states; ranks = p.1.ranks; owed = p.1.owing; turn = p.1.same_turn };
        }))
        (λ e. let s = edge_holds a b v l w e in
        passes_chosen a b charts may owes (next_turn a b x) (a.step x.duty l) next_no_rank next_only_none state c o w s.to (record {
          states = s.step.duty;
          ranks = s.step.ranks;
          owing = s.step.owed;
          same_turn = s.step.turn;
        }))

  -- v itself
  module _ (v : ℕ) (low : (parts v).duty < a.states) (o : NodeOffered b (parts v) c) where
    abbrev y : Node
    y = parts v

    abbrev here : ℕ → Bool
    here q = eqb y.duty q

    any_no_rank : (q : ℕ) → b.states ≤ q → is_within b q None ≡ true
    any_no_rank q h = refl

    any_only_none : (q r : ℕ) → b.states ≤ q → is_within b q (Some r) ≡ true → ⊥
    any_only_none q r h e = false≢true (rw (le-ltb q b.states h) at e)

    within_state : (q : ℕ) (r : Option ℕ) → q < b.states → is_within b q r ≡ true
    within_state q None h = refl
    within_state q (Some r) h = lt-ltb q b.states h

    at_here : (q : ℕ) → here q ≡ true → q < a.states
    at_here q e = subst (λ z. z < a.states) (eqb-true y.duty q e) low

    pub node_chosen : chosen c v ≡ is_number a b v
    node_chosen =
        alike (chosen c v) (is_number a b v)
        (λ e. (chosen_passes a b charts (is_within b) y.owed y.turn here any_no_rank any_only_none at_here c o v e).0)
        (λ e. let valid = (number_holds a b v e).valid in
        passes_chosen a b charts (is_within b) y.owed y.turn here any_no_rank any_only_none at_here c o v e (record {
          states = eq-eqb y.duty y.duty refl;
          ranks = λ q h. within_state q (y.rank q) h;
          owing =
              λ q h. alike (y.owed q) (has_even (y.rank q) && y.owed q)
              (λ t. and_from (has_even (y.rank q)) (y.owed q) (valid.owed q h t) t)
              (λ t. (and_parts (has_even (y.rank q)) (y.owed q) t).1);
          same_turn = refl;
        }))
