use Rattle.std.proofs.Common.{rules, tests}
use Rattle.std.proofs.lemmas.Bool.{ltb-true}
use Rattle.numbers.proofs.Finding.{least_found}
use Rattle.samples.specs.BitGraphs.{bit_graph, bit_graph_bounded}
use Rattle.samples.proofs.bit_graphs.BitGraphMap.least_next.Goals as goal

-- what v leads to is a node
pub returns : goal.returns
returns c =
    let m = c.args.self.now in
    let b = bit_graph_bounded m.letters m.starts m.marks m.rows.now in
    least_found ((bit_graph m.letters m.starts m.marks m.rows.now).edge c.args.v c.args.letter) _ _ _ _
    (λ w e. ltb-true w 64 (b.edges c.args.v c.args.letter w e).2) c.find.ensures.ran
    (λ w q k. search (rules, tests)) (λ w q k. search (rules, tests))
