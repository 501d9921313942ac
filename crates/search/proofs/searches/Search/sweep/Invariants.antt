use Rattle.std.proofs.Common.{◌≡◌, ℕ, true, length}
use Rattle.search.specs.Progress.{progress}
use Rattle.graph.specs.declared.implicit.Nodes.TheVariants.{Starts}
use Rattle.records.specs.Tables.{SameTable, node_at, At}
use Rattle.graph.specs.Implicit.{graph_of}
use Rattle.graph.specs.Ascending.{Passed}
use Rattle.search.specs.Searches.{Going}
use Rattle.search.proofs.searches.Search.sweep.Given as goal

-- the starts that are passed are done
abbrev pub invariant-loop-start : goal.invariant-loop-start
invariant-loop-start g l =
    (l.start-iterator.graph ≡ l.graph) × (l.start-iterator.nodes ≡ Starts)
    × SameTable l.initial.self.table.work l.self.table.work × Going (graph_of g.M.Map.graph l.graph) (progress l.self) l.self.table.work.now
    × (l.self.table.size ≡ 0)
    × ((v : ℕ) → Passed l.start-iterator.from v → (graph_of g.M.Map.graph l.graph).start v ≡ true → At (node_at l.self.table.work.now) l.self.table.top (length l.self.table.work.now) v)
