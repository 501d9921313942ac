-- What the two maps of an automaton are: its own graph, and its graph along a word.
use Rattle.std.specs.Prelude.{ℕ, ◌/◌, ◌%◌, Bool, ◌&&◌, List, length, ◌==◌, nat_lt, slice_index}
use Rattle.chart.specs.Automata.{Automaton}
use Rattle.graph.specs.Graphs.{Graph}
use Rattle.lasso.specs.Positions.{is_lasso, after}

-- The automaton as a graph: the states are the nodes, and the steps the edges.
abbrev pub chart_graph : Automaton → Graph
chart_graph m =
    record {
      letters = m.letters;
      node = λ v. nat_lt v m.states;
      start = m.start;
      marked = m.mark;
      edge = m.step;
    }

-- A node along a word is a place of the word with a state, as place * 32 + state.
abbrev pub place_of : ℕ → ℕ
place_of v = v / 32

abbrev pub state_of : ℕ → ℕ
state_of v = v % 32

-- v is a node along the word; a word outside its limits has none
abbrev pub word_node : Automaton → List ℕ → ℕ → ℕ → Bool
word_node m word stem v = is_lasso (length word) stem && (nat_lt (place_of v) (length word) && nat_lt (state_of v) m.states)

-- Along the word: the starts are at place 0, and an edge steps by the letter at its place, and goes to the place after.
abbrev pub word_graph : Automaton → List ℕ → ℕ → Graph
word_graph m word stem =
    record {
      letters = m.letters;
      node = word_node m word stem;
      start = λ v. word_node m word stem v && (place_of v == 0 && m.start (state_of v));
      marked = λ v. word_node m word stem v && m.mark (state_of v);
      edge =
          λ v l w. word_node m word stem v
          && (l == slice_index word (place_of v)
          && (place_of w == after (length word) stem (place_of v) && m.step (state_of v) l (state_of w)));
    }
