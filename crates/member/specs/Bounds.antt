-- Both graphs keep the bounds of graphs.
use Rattle.std.specs.Prelude.{◌≡◌, ℕ, ◌/◌, ◌%◌, ◌<◌, true, ◌&&◌, List, length, ◌==◌, nat_eq, nat_lt, slice_index}
use Rattle.std.proofs.Common.{arith}
use Rattle.std.proofs.lemmas.Bool.{and_parts, and_from, eqb-true, lt-ltb, ltb-true}
use Rattle.chart.specs.Automata.{Automaton, Limits}
use Rattle.graph.specs.Graphs.{Bounded}
use Rattle.lasso.specs.Positions.{IsLasso, is_lasso, after}
use Rattle.lasso.specs.Tests.{lasso_true, lasso_from}
use Rattle.lasso.proofs.Places.{after_below}
use Rattle.member.specs.Maps.{chart_graph, word_node, word_graph}

pub chart_bounded : (m : Automaton) → Limits m → Bounded (chart_graph m)
chart_bounded m h =
    record {
      few_letters = omega (arith, h.size.few_letters);
      nodes = λ v e. omega (arith, ltb-true v m.states e);
      starts = λ v e. lt-ltb v m.states (h.starts v e);
      marks = λ v e. lt-ltb v m.states (h.marks v e);
      edges =
          λ v l w e. let s = h.steps v l w e in
          (lt-ltb v m.states s.0, s.1, lt-ltb w m.states s.2);
    }

-- what it is to be a node along a word
pub record Node (m : Automaton) (word : List ℕ) (stem v : ℕ) : Type 0 where
  pub lasso : IsLasso (length word) stem
  pub place : v / 32 < length word
  pub state : v % 32 < m.states

pub node_true : (m : Automaton) (word : List ℕ) (stem v : ℕ) → word_node m word stem v ≡ true → Node m word stem v
node_true m word stem v e =
    let a = and_parts (is_lasso (length word) stem) (nat_lt (v / 32) (length word) && nat_lt (v % 32) m.states) e in
    let b = and_parts (nat_lt (v / 32) (length word)) (nat_lt (v % 32) m.states) a.1 in
    record {
      lasso = lasso_true (length word) stem a.0;
      place = ltb-true (v / 32) (length word) b.0;
      state = ltb-true (v % 32) m.states b.1;
    }

pub node_from : (m : Automaton) (word : List ℕ) (stem v : ℕ) → Node m word stem v → word_node m word stem v ≡ true
node_from m word stem v n =
    and_from (is_lasso (length word) stem) (nat_lt (v / 32) (length word) && nat_lt (v % 32) m.states)
    (lasso_from (length word) stem n.lasso)
    (and_from (nat_lt (v / 32) (length word)) (nat_lt (v % 32) m.states) (lt-ltb (v / 32) (length word) n.place) (lt-ltb (v % 32) m.states n.state))

-- an edge along a word
pub record Along (m : Automaton) (word : List ℕ) (stem v l w : ℕ) : Type 0 where
  pub node : Node m word stem v
  pub letter : l ≡ slice_index word (v / 32)
  pub place : w / 32 ≡ after (length word) stem (v / 32)
  pub step : m.step (v % 32) l (w % 32) ≡ true

pub edge_true : (m : Automaton) (word : List ℕ) (stem v l w : ℕ) → (word_graph m word stem).edge v l w ≡ true → Along m word stem v l w
edge_true m word stem v l w e =
    let s = m.step (v % 32) l (w % 32) in
    let p = nat_eq (w / 32) (after (length word) stem (v / 32)) in
    let i = nat_eq l (slice_index word (v / 32)) in
    let a = and_parts (word_node m word stem v) (i && (p && s)) e in
    let b = and_parts i (p && s) a.1 in
    let c = and_parts p s b.1 in
    record {
      node = node_true m word stem v a.0;
      letter = eqb-true l (slice_index word (v / 32)) b.0;
      place = eqb-true (w / 32) (after (length word) stem (v / 32)) c.0;
      step = c.1;
    }

pub word_bounded : (m : Automaton) → Limits m → (word : List ℕ) (stem : ℕ) → Bounded (word_graph m word stem)
word_bounded m h word stem =
    record {
      few_letters = omega (arith, h.size.few_letters);
      nodes = λ v e. let n = node_true m word stem v e in omega (arith, n.place, n.lasso.few_elements);
      starts = λ v e. (and_parts (word_node m word stem v) (v / 32 == 0 && m.start (v % 32)) e).0;
      marks = λ v e. (and_parts (word_node m word stem v) (m.mark (v % 32)) e).0;
      edges =
          λ v l w e. let a = edge_true m word stem v l w e in
          let s = h.steps (v % 32) l (w % 32) a.step in (
            node_from m word stem v a.node,
            s.1,
            node_from m word stem w (record {
              lasso = a.node.lasso;
              place = rw a.place (after_below (length word) stem (v / 32) a.node.lasso.loops);
              state = s.2;
            }),
          );
    }
