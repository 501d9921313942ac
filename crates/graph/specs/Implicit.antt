-- The graph for which a map answers, with a word.
use Rattle.std.specs.Prelude.{ℕ, Bool, List}
use Rattle.graph.specs.Graphs.{Graph}
use Rattle.graph.specs.declared.implicit.ImplicitGraph.{ImplicitGraph}
use Rattle.graph.specs.declared.implicit.Nodes.{Nodes}
use Rattle.graph.specs.declared.implicit.Nodes.TheVariants.{Starts, Successors}

abbrev pub graph_of : {M : Type 0} → (M → List ℕ → ℕ → Graph) → ImplicitGraph M → Graph
graph_of graph g = graph g.map.now g.word.elements.now g.word.stem

-- these nodes of a graph
abbrev pub among : Graph → Nodes → ℕ → Bool
among g Starts = g.start
among g (Successors v letter) = g.edge v letter
