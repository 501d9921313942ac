use Rattle.std.proofs.Common.{sym, ◌∙◌}
use Rattle.std.proofs.lemmas.Bool.{le-ltb}
use Rattle.numbers.proofs.Bits.{beyond_false}
use Rattle.numbers.proofs.sets.contains.Goals as goal

pub returns-else-q-lt32 : goal.returns-else-q-lt32
returns-else-q-lt32 c =
    le-ltb c.args.q 32 c.if-q-lt32.false ∙ sym (beyond_false c.args.set 32 c.ranges.set.fits c.args.q c.if-q-lt32.false)
