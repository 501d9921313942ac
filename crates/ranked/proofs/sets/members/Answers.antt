use Rattle.std.proofs.Common.{ℕ, ◌+◌, ◌<◌, Bool, sym, subst, arith}
use Rattle.numbers.specs.Bits.{bit, Below}
use Rattle.numbers.proofs.Bits.{none_false}
use Rattle.ranked.proofs.Members.{told_with, told_without}
use Rattle.ranked.proofs.sets.members.Goals as goal
use Rattle.ranked.proofs.sets.members.Goals.{then-test, else-test}

pub loop-q-init : goal.loop-q-init
loop-q-init g c = (λ q _. none_false q, λ k h. absurd (omega arith))

pub loop-q-preserved : goal.loop-q-preserved
loop-q-preserved g c =
    let P : ℕ → Bool → Type 0 = goal.F-post g c.args.test in
    let q : ℕ = c.loop-q.q in
    let s : ℕ = c.loop-q.set in
    let Told : ℕ → Type 0 = λ x. Below (q + 1) x × ((k : ℕ) → k < q + 1 → P k (bit x k)) in
    elim c.if-test.branch [
      | then-test w ↦ subst Told (sym w.set-is)
          (told_with P s q c.loop-q.invariant.0 c.loop-q.invariant.1 w.with-set.result (w.with-set.ensures.small (omega arith)) w.if-test.ensures)
      | else-test w ↦ subst Told (sym w.set-is) (told_without P s q c.loop-q.invariant.0 c.loop-q.invariant.1 w.if-test.ensures)
    ]
