use Rattle.std.proofs.Common.{ltb, rules, tests}
use Rattle.std.proofs.lemmas.Bool.{and_parts, ltb-true}
use Rattle.numbers.proofs.Finding.{least_found}
use Rattle.numbers.specs.Bits.{bit}
use Rattle.samples.specs.BitGraphs.{bit_graph}
use Rattle.samples.proofs.bit_graphs.BitGraphMap.least_start.Goals as goal

-- a start is a node
pub returns : goal.returns
returns c =
    let m = c.args.self.now in
    least_found (bit_graph m.letters m.starts m.marks m.rows.now).start _ _ _ _
    (λ v e. ltb-true v 64 (and_parts (ltb v 64) (bit m.starts v) e).0) c.find.ensures.ran
    (λ v q k. search (rules, tests)) (λ v q k. search (rules, tests))
