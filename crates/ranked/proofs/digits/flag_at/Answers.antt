use Rattle.std.proofs.Common.{◌≤◌, arith}
use Rattle.std.proofs.Math.Pow.{pow_mono}
use Rattle.std.proofs.lemmas.Nat.{one_shl}
use Rattle.ranked.proofs.digits.flag_at.Goals as goal

pub returns-then-set-clause-small : goal.returns-then-set-clause-small
returns-then-set-clause-small c =
    let few : c.args.q ≤ 5 = omega arith in
    omega (arith, one_shl c.args.q 64 (omega arith), pow_mono few)
