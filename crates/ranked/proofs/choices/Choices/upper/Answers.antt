use Rattle.std.proofs.Common.{arith}
use Rattle.ranked.proofs.Uppers.{owed_small}
use Rattle.ranked.proofs.choices.Choices.upper.Goals as goal

pub overflow_mul-result : goal.overflow_mul-result
overflow_mul-result c = omega (arith, owed_small c.args.self c.args.ranks)

pub overflow_add-result : goal.overflow_add-result
overflow_add-result c = omega (arith, owed_small c.args.self c.args.ranks)
