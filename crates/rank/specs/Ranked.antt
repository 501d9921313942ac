-- The ranked graph of a duty a and a rule b: the product of the duty with a complement of the rule by level rankings. A walk
-- from a start follows one run of the duty, and with it all runs of the rule over the same letters.
use Rattle.std.specs.Prelude.{ℕ, Bool, ◌&&◌, ◌==◌, nat_lt}
use Rattle.chart.specs.Automata.{Automaton}
use Rattle.graph.specs.Graphs.{Graph}
use Rattle.rank.specs.Layout.{parts, number}
use Rattle.rank.specs.Rules.{is_node, is_start, is_step, is_marked}

-- v is a node: it is the number of its parts, and they are a node's
abbrev pub is_number : Automaton → Automaton → ℕ → Bool
is_number a b v = v == number b.states (parts v) && is_node a b (parts v)

abbrev pub ranked_graph : Automaton → Automaton → Graph
ranked_graph a b =
    record {
      letters = a.letters;
      node = is_number a b;
      start = λ v. is_number a b v && is_start a b (parts v);
      marked = λ v. is_number a b v && is_marked b (parts v);
      edge = λ v l w. is_number a b v && (nat_lt l a.letters && (is_number a b w && is_step a b (parts v) l (parts w)));
    }
