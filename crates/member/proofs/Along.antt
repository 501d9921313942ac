-- What the tests of the graph along a word say, and what makes them true.
use Rattle.std.proofs.Common.{◌≡◌, ℕ, ◌/◌, ◌%◌, true, ◌&&◌, eqb, List, length, get_or}
use Rattle.std.proofs.lemmas.Bool.{and_from, and_parts, eq-eqb, eqb-true}
use Rattle.chart.specs.Automata.{Automaton}
use Rattle.lasso.specs.Positions.{after}
use Rattle.member.specs.Bounds.{Node, Along, node_true, node_from}
use Rattle.member.specs.Maps.{word_graph, word_node}

pub start_true : (m : Automaton) (word : List ℕ) (stem v : ℕ) → (word_graph m word stem).start v ≡ true → Node m word stem v × (v / 32 ≡ 0) × (m.start (v % 32) ≡ true)
start_true m word stem v e =
    let a = and_parts (word_node m word stem v) (eqb (v / 32) 0 && m.start (v % 32)) e in
    let b = and_parts (eqb (v / 32) 0) (m.start (v % 32)) a.1 in
    (node_true m word stem v a.0, eqb-true (v / 32) 0 b.0, b.1)

pub start_from : (m : Automaton) (word : List ℕ) (stem v : ℕ) → Node m word stem v → v / 32 ≡ 0 → m.start (v % 32) ≡ true → (word_graph m word stem).start v ≡ true
start_from m word stem v n p s =
    and_from (word_node m word stem v) (eqb (v / 32) 0 && m.start (v % 32)) (node_from m word stem v n)
    (and_from (eqb (v / 32) 0) (m.start (v % 32)) (eq-eqb (v / 32) 0 p) s)

pub marked_true : (m : Automaton) (word : List ℕ) (stem v : ℕ) → (word_graph m word stem).marked v ≡ true → m.mark (v % 32) ≡ true
marked_true m word stem v e = (and_parts (word_node m word stem v) (m.mark (v % 32)) e).1

pub marked_from : (m : Automaton) (word : List ℕ) (stem v : ℕ) → Node m word stem v → m.mark (v % 32) ≡ true → (word_graph m word stem).marked v ≡ true
marked_from m word stem v n e = and_from (word_node m word stem v) (m.mark (v % 32)) (node_from m word stem v n) e

pub edge_from : (m : Automaton) (word : List ℕ) (stem v l w : ℕ) → Along m word stem v l w → (word_graph m word stem).edge v l w ≡ true
edge_from m word stem v l w h =
    let s = m.step (v % 32) l (w % 32) in
    let p = eqb (w / 32) (after (length word) stem (v / 32)) in
    let i = eqb l (get_or word (v / 32) 0) in
    and_from (word_node m word stem v) (i && (p && s)) (node_from m word stem v h.node)
    (and_from i (p && s) (eq-eqb l (get_or word (v / 32) 0) h.letter)
    (and_from p s (eq-eqb (w / 32) (after (length word) stem (v / 32)) h.place) h.step))
