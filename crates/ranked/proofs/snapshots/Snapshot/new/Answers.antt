use Rattle.std.proofs.Common.{arith}
use Rattle.ranked.proofs.Keeping.{rows_limits}
use Rattle.ranked.proofs.snapshots.Snapshot.new.Goals as goal

pub invariant_of-result : goal.invariant_of-result
invariant_of-result g c =
    record {
      limits =
          rows_limits (g.C.Chart.meaning c.args.chart.now) (g.C.Chart.limits c.args.chart.now) c.states.result c.letters.result c.starts.result c.marks.result
          c.rows.result (omega arith) c.states.ensures c.letters.ensures c.starts.ensures c.marks.ensures (λ k q h. c.rows.ensures k q h);
    }
