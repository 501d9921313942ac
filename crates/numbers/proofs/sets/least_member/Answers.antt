use Rattle.std.proofs.Common.{arith}
use Rattle.numbers.proofs.Bits.{least_none, least_past, least_some}
use Rattle.numbers.proofs.sets.least_member.Goals as goal

pub returns-then-from-ge32 : goal.returns-then-from-ge32
returns-then-from-ge32 c = least_past c.args.set c.args.from c.ranges.set.fits (omega arith)

pub returns-then-rest-eq0 : goal.returns-then-rest-eq0
returns-then-rest-eq0 c = least_none c.args.set c.args.from c.if-rest-eq0.true

pub returns : goal.returns
returns c = least_some c.args.set c.args.from c.ranges.set.fits c.if-rest-eq0.false (omega arith)
