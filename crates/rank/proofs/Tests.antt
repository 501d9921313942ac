-- What the tests of the ranked graph say, and what makes them true.
use Rattle.std.proofs.Common.{◌≡◌, ℕ, ◌<◌, Bool, true, false, not, ◌&&◌, ◌||◌, eqb, ltb}
use Rattle.std.proofs.lemmas.Bool.{and_from, and_parts, eq-eqb, eqb-true, lt-ltb, ltb-true, not-true, not_from_false}
use Rattle.std.specs.Bool.{beq}
use Rattle.std.specs.Cmp.{booleans_Decides}
use Rattle.chart.specs.Automata.{Automaton}
use Rattle.numbers.specs.Below.{all_below}
use Rattle.numbers.proofs.Below.{all_at, all_from}
use Rattle.rank.specs.Layout.{parts, number}
use Rattle.rank.specs.Nodes.{Node}
use Rattle.rank.specs.Ranked.{is_number, ranked_graph}
use Rattle.rank.proofs.Implied.{implied, implied_from}
use Rattle.rank.proofs.Laws.{marked_from, marked_holds}
use Rattle.rank.specs.Rules.{has_even, may_have, is_empty, is_first_rank, is_next_rank, next_owed, next_turn, is_node, is_start, is_step, is_marked}

-- the first node of a walk
pub record Start (a b : Automaton) (x : Node) : Type 0 where
  pub duty : a.start x.duty ≡ true
  pub ranks : (q : ℕ) → q < b.states → is_first_rank b q (x.rank q) ≡ true
  pub owed : is_empty b x.owed ≡ true
  pub turn : x.turn ≡ false

-- from x by letter l to y
pub record Step (a b : Automaton) (x : Node) (l : ℕ) (y : Node) : Type 0 where
  pub duty : a.step x.duty l y.duty ≡ true
  pub ranks : (q : ℕ) → q < b.states → is_next_rank b x.rank l q (y.rank q) ≡ true
  pub owed : (q : ℕ) → q < b.states → y.owed q ≡ next_owed b x.owed l y.rank q
  pub turn : y.turn ≡ next_turn a b x

-- x is a node
pub record Valid (a b : Automaton) (x : Node) : Type 0 where
  pub duty : x.duty < a.states
  pub ranks : (q : ℕ) → q < b.states → may_have b q (x.rank q) ≡ true
  pub owed : (q : ℕ) → q < b.states → x.owed q ≡ true → has_even (x.rank q) ≡ true

-- v is the number of a node
pub record Numbered (a b : Automaton) (v : ℕ) : Type 0 where
  pub same : v ≡ number b.states (parts v)
  pub valid : Valid a b (parts v)

pub record Edges (a b : Automaton) (v l w : ℕ) : Type 0 where
  pub from : is_number a b v ≡ true
  pub letter : l < a.letters
  pub to : is_number a b w ≡ true
  pub step : Step a b (parts v) l (parts w)

module _ (a b : Automaton) where
  abbrev state_fits : Node → ℕ → Bool
  state_fits x q = may_have b q (x.rank q) && (not (x.owed q) || has_even (x.rank q))

  pub node_holds : (x : Node) → is_node a b x ≡ true → Valid a b x
  node_holds x e =
      let p = and_parts (ltb x.duty a.states) (all_below b.states (state_fits x)) e in
      let each = λ (q : ℕ) (h : q < b.states).
      and_parts (may_have b q (x.rank q)) (not (x.owed q) || has_even (x.rank q)) (all_at b.states (state_fits x) p.1 q h) in
      record {
        duty = ltb-true x.duty a.states p.0;
        ranks = λ q h. (each q h).0;
        owed = λ q h. implied (x.owed q) (has_even (x.rank q)) (each q h).1;
      }

  pub node_test : (x : Node) → Valid a b x → is_node a b x ≡ true
  node_test x v =
      and_from (ltb x.duty a.states) (all_below b.states (state_fits x)) (lt-ltb x.duty a.states v.duty)
      (all_from b.states (state_fits x)
      (λ q h. and_from (may_have b q (x.rank q)) (not (x.owed q) || has_even (x.rank q)) (v.ranks q h)
      (implied_from (x.owed q) (has_even (x.rank q)) (v.owed q h))))

  pub number_holds : (v : ℕ) → is_number a b v ≡ true → Numbered a b v
  number_holds v e =
      let p = and_parts (eqb v (number b.states (parts v))) (is_node a b (parts v)) e in
      record { same = eqb-true v (number b.states (parts v)) p.0; valid = node_holds (parts v) p.1 }

  pub number_test : (v : ℕ) → Numbered a b v → is_number a b v ≡ true
  number_test v n =
      and_from (eqb v (number b.states (parts v))) (is_node a b (parts v)) (eq-eqb v (number b.states (parts v)) n.same)
      (node_test (parts v) n.valid)

  pub start_number : (v : ℕ) → (ranked_graph a b).start v ≡ true → is_number a b v ≡ true
  start_number v e = (and_parts (is_number a b v) (is_start a b (parts v)) e).0

  pub marked_number : (v : ℕ) → (ranked_graph a b).marked v ≡ true → is_number a b v ≡ true
  marked_number v e = (and_parts (is_number a b v) (is_marked b (parts v)) e).0

  start_holds : (x : Node) → is_start a b x ≡ true → Start a b x
  start_holds x e =
      let ranks = all_below b.states (λ q. is_first_rank b q (x.rank q)) in
      let p = and_parts (a.start x.duty) (ranks && (is_empty b x.owed && not x.turn)) e in
      let q = and_parts ranks (is_empty b x.owed && not x.turn) p.1 in
      let r = and_parts (is_empty b x.owed) (not x.turn) q.1 in
      record {
        duty = p.0;
        ranks = all_at b.states (λ q. is_first_rank b q (x.rank q)) q.0;
        owed = r.0;
        turn = not-true x.turn r.1;
      }

  start_test : (x : Node) → Start a b x → is_start a b x ≡ true
  start_test x s =
      let ranks = all_below b.states (λ q. is_first_rank b q (x.rank q)) in
      and_from (a.start x.duty) (ranks && (is_empty b x.owed && not x.turn)) s.duty
      (and_from ranks (is_empty b x.owed && not x.turn) (all_from b.states (λ q. is_first_rank b q (x.rank q)) s.ranks)
      (and_from (is_empty b x.owed) (not x.turn) s.owed (not_from_false x.turn s.turn)))

  pub first_holds : (v : ℕ) → (ranked_graph a b).start v ≡ true → Start a b (parts v)
  first_holds v e = start_holds (parts v) (and_parts (is_number a b v) (is_start a b (parts v)) e).1

  pub first_test : (v : ℕ) → is_number a b v ≡ true → Start a b (parts v) → (ranked_graph a b).start v ≡ true
  first_test v n s = and_from (is_number a b v) (is_start a b (parts v)) n (start_test (parts v) s)

  pub mark_holds : (v : ℕ) → (ranked_graph a b).marked v ≡ true → ((parts v).turn ≡ true) × (is_empty b (parts v).owed ≡ true)
  mark_holds v e = marked_holds b (parts v) (and_parts (is_number a b v) (is_marked b (parts v)) e).1

  pub mark_test : (v : ℕ) → is_number a b v ≡ true → (parts v).turn ≡ true → is_empty b (parts v).owed ≡ true → (ranked_graph a b).marked v ≡ true
  mark_test v n t o = and_from (is_number a b v) (is_marked b (parts v)) n (marked_from b (parts v) t o)

  step_holds : (x : Node) (l : ℕ) (y : Node) → is_step a b x l y ≡ true → Step a b x l y
  step_holds x l y e =
      let rank = λ (q : ℕ). is_next_rank b x.rank l q (y.rank q) in
      let owed = λ (q : ℕ). beq (y.owed q) (next_owed b x.owed l y.rank q) in
      let turn = beq y.turn (next_turn a b x) in
      let p = and_parts (a.step x.duty l y.duty) (all_below b.states rank && (all_below b.states owed && turn)) e in
      let q = and_parts (all_below b.states rank) (all_below b.states owed && turn) p.1 in
      let r = and_parts (all_below b.states owed) turn q.1 in
      record {
        duty = p.0;
        ranks = all_at b.states rank q.0;
        owed = λ k h. (booleans_Decides (y.owed k) (next_owed b x.owed l y.rank k)).0 (all_at b.states owed r.0 k h);
        turn = (booleans_Decides y.turn (next_turn a b x)).0 r.1;
      }

  step_test : (x : Node) (l : ℕ) (y : Node) → Step a b x l y → is_step a b x l y ≡ true
  step_test x l y s =
      let rank = λ (q : ℕ). is_next_rank b x.rank l q (y.rank q) in
      let owed = λ (q : ℕ). beq (y.owed q) (next_owed b x.owed l y.rank q) in
      let turn = beq y.turn (next_turn a b x) in
      and_from (a.step x.duty l y.duty) (all_below b.states rank && (all_below b.states owed && turn)) s.duty
      (and_from (all_below b.states rank) (all_below b.states owed && turn) (all_from b.states rank s.ranks)
      (and_from (all_below b.states owed) turn
      (all_from b.states owed (λ k h. (booleans_Decides (y.owed k) (next_owed b x.owed l y.rank k)).1 (s.owed k h)))
      ((booleans_Decides y.turn (next_turn a b x)).1 s.turn)))

  pub edge_holds : (v l w : ℕ) → (ranked_graph a b).edge v l w ≡ true → Edges a b v l w
  edge_holds v l w e =
      let step = is_step a b (parts v) l (parts w) in
      let p = and_parts (is_number a b v) (ltb l a.letters && (is_number a b w && step)) e in
      let q = and_parts (ltb l a.letters) (is_number a b w && step) p.1 in
      let r = and_parts (is_number a b w) step q.1 in
      record { from = p.0; letter = ltb-true l a.letters q.0; to = r.0; step = step_holds (parts v) l (parts w) r.1 }

  pub edge_test : (v l w : ℕ) → Edges a b v l w → (ranked_graph a b).edge v l w ≡ true
  edge_test v l w s =
      let step = is_step a b (parts v) l (parts w) in
      and_from (is_number a b v) (ltb l a.letters && (is_number a b w && step)) s.from
      (and_from (ltb l a.letters) (is_number a b w && step) (lt-ltb l a.letters s.letter)
      (and_from (is_number a b w) step s.to (step_test (parts v) l (parts w) s.step)))
