use Rattle.std.proofs.Common.{◌*◌}
use Rattle.records.specs.Tables.{node_at, At}
use Rattle.records.proofs.finding.find.Given as goal

abbrev pub invariant-loop-block : goal.invariant-loop-block
invariant-loop-block l = At (node_at l.records) 0 (8 * l.block) l.node → ⊥
