use Rattle.graph.proofs.implicit.ImplicitGraph.least.Goals as goal

pub returns-in-Starts : goal.returns-in-Starts
returns-in-Starts g c = rw c.in-Starts.is c.least_start.ensures

pub returns-in-Successors : goal.returns-in-Successors
returns-in-Successors g c = rw c.in-Successors.is c.least_next.ensures
