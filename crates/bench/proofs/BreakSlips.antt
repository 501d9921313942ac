-- The slip that judge writes where a marked node lies on a cycle.
use Rattle.std.proofs.Common.{◌≡◌, ◌∙◌, ℕ, ◌++◌, List, length, drop, ap, refl, subst, sym, arith}
use Rattle.bench.specs.Drafting.{Wrote}
use Rattle.graph.specs.Graphs.{Graph, Bounded}
use Rattle.graph.specs.Witnesses.{MarkedLasso}
use Rattle.slip.specs.declared.kinds.Kind.TheVariants.{Break}
use Rattle.paths.specs.Lassos.{Written}
use Rattle.records.specs.Tables.{node_at, letter_at}
use Rattle.paths.specs.declared.lassos.Extent.{Extent}
use Rattle.records.specs.declared.record.Record.{Record}
use Rattle.slip.proofs.Meeting.{lasso_meets}

pub break_wrote : (g : Graph) (node room : ℕ) → Bounded g → (was table : List Record) (c : Extent) → Written g node room was table c → (nodes : ℕ)
    → Wrote g room (record { kind = Break; nodes = nodes }) was table (record { kind = Break; count = c.count; stem = c.stem })
break_wrote g node room bounds was table c w nodes =
    let rs = w.records in
    let count : length rs ≡ c.count = w.count in
    let lasso = subst (λ n. MarkedLasso g (node_at rs) (letter_at rs) n c.stem) (sym count) w.lasso in
    record {
      slip = record { kind = Break; stem = c.stem; records = rs };
      drafts =
          record {
            kind = refl;
            fits = record { few = omega (arith, count, w.short); placed = lasso.loops };
            meets = lasso_meets g bounds rs c.stem lasso (λ k h. w.measures k (omega (arith, count, h)));
            measured = λ e. absurd (cc);
          };
      form = ap (λ n. record { kind = Break; count = n; stem = c.stem }) (sym count);
      changed = w.changed ∙ ap (λ n. rs ++ drop n was) (sym count);
    }
