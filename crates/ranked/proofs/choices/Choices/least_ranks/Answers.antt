use Rattle.std.proofs.Common.{◌≡◌, ℕ, ◌*◌, ◌%◌, ◌^◌, suc, ◌+◌, subst, arith}
use Rattle.std.proofs.Math.Nat.{mod-eq_of_lt, zero-mod}
use Rattle.numbers.specs.Least.{Least}
use Rattle.ranked.specs.Digits.{drawn}
use Rattle.ranked.proofs.choices.Choices.least_ranks.Goals as goal

pub loop-q-preserved : goal.loop-q-preserved
loop-q-preserved c =
    let held = c.args.self.digits in
    let one_more = λ (n : ℕ). Least (drawn held n) (c.args.from % 2 ^ (4 * n)) c.raise-best.result × Least (drawn held n) 0 c.raise-low.result in
    subst one_more (let e : suc c.loop-q.q ≡ c.loop-q.q + 1 = omega arith in e)
    (c.raise-best.ensures, subst (λ x. Least (drawn held (suc c.loop-q.q)) x c.raise-low.result) (zero-mod (2 ^ (4 * suc c.loop-q.q))) c.raise-low.ensures)

pub returns : goal.returns
returns c =
    let held = c.args.self.digits in
    let end : c.loop-q.q ≡ 6 = omega arith in
    let all : c.args.from % 2 ^ 24 ≡ c.args.from = mod-eq_of_lt (omega arith) in
    subst (λ x. Least (drawn held 6) x c.loop-q.best) all
    (subst (λ n. Least (drawn held n) (c.args.from % 2 ^ (4 * n)) c.loop-q.best) end c.loop-q.invariant.0)
