use Rattle.std.proofs.Common.{ℕ, ◌%◌, ◌≤◌, ◌*◌, ◌&&◌, eqb, arith}
use Rattle.std.proofs.Math.Pow.{pow_mono}
use Rattle.numbers.specs.Bits.{bit}
use Rattle.rank.specs.Layout.{flag}
use Rattle.rank.proofs.Fields.{fields_small}
use Rattle.rank.proofs.Numbers.{flag_small}
use Rattle.ranked.specs.Digits.{digit}
use Rattle.ranked.proofs.choices.Choices.owed.Goals as goal

pub overflow_add-owed : goal.overflow_add-owed
overflow_add-owed c =
    let q : ℕ = c.loop-q.q in
    let set = λ (k : ℕ). flag (eqb (digit c.args.ranks k % 2) 1 && bit c.args.self.owing k) in
    let few : 1 * q ≤ 6 = omega arith in
    let six : q ≤ 6 = omega arith in
    omega (arith, fields_small 1 set q (λ k h. flag_small (eqb (digit c.args.ranks k % 2) 1 && bit c.args.self.owing k)), pow_mono few, c.flag_at.ensures.small)
