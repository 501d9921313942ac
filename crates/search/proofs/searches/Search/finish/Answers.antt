use Rattle.std.proofs.Common.{◌%◌, ap, ◌∙◌, arith}
use Rattle.graph.specs.Implicit.{graph_of}
use Rattle.records.specs.declared.record.Record.{Record}
use Rattle.search.proofs.searches.Search.finish.Goals as goal

pub returns-then-low_link-self-clause-stepped : goal.returns-then-low_link-self-clause-stepped
returns-then-low_link-self-clause-stepped g c =
    let word = c.args.graph.now.word in
    let low = c.low_link.ensures ∙ ap (λ (r : Record). r.measure % 65536) c.record.ensures in
    c.leave.ensures.stepped (graph_of g.M.Map.graph c.args.graph.now) (g.M.Map.bounds c.args.graph.now.map.now word.elements.now word.stem)
    c.requires (omega arith)
