use Rattle.std.proofs.Common.{◌≡◌, ℕ, ◌+◌, ◌*◌, ◌/◌, ◌<◌, ◌≤◌, length, sym, subst, ⊎_elim, MatchOption, arith}
use Rattle.std.proofs.lemmas.Bool.{cases_lt}
use Rattle.records.specs.Tables.{node_at, At}
use Rattle.records.proofs.Parts.{none_in_part}
use Rattle.records.proofs.finding.find.Goals as goal

pub loop-block-preserved : goal.loop-block-preserved
loop-block-preserved c =
    let work = c.args.records.now in
    let first : ℕ = 8 * c.loop-block.block in
    λ (j, lo, hi, is). ⊎_elim (λ (before : j < first). c.loop-block.invariant (j, lo, before, is))
    (λ (here : first ≤ j). none_in_part first (first + 8) c.args.node work (omega arith) (omega arith) c.in_default.ensures (j, here, omega arith, is))
    (cases_lt j first)

pub returns-in_err-i : goal.returns-in_err-i
returns-in_err-i c =
    let work = c.args.records.now in
    let first : ℕ = 8 * (length work / 8) in
    subst (λ r. MatchOption r (At (node_at work) 0 (length work) c.args.node → ⊥) (λ i. (i < length work) × (node_at work i ≡ c.args.node)))
    (sym c.from_residual.ensures)
    (λ (j, lo, hi, is). ⊎_elim (λ (before : j < first). c.loop-block.invariant (j, lo, omega arith, is))
    (λ (here : first ≤ j). none_in_part first (length work) c.args.node work (omega arith) (omega arith) c.in_err-i.ensures (j, here, hi, is))
    (cases_lt j first))
