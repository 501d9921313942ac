use Rattle.std.proofs.Common.{ap, ◌∙◌}
use lib.Bits.{bit_or}
use Rattle.std.proofs.lemmas.Nat.{one_shl}
use Rattle.numbers.specs.Bits.{bit}
use Rattle.numbers.proofs.Bits.{bit_with}
use Rattle.numbers.proofs.sets.with.Goals as goal

pub returns-then-q-lt32-clause-small : goal.returns-then-q-lt32-clause-small
returns-then-q-lt32-clause-small c = λ low i. ap (λ x. bit (bit_or c.args.set x) i) (one_shl c.args.q 32 low) ∙ bit_with c.args.set c.args.q i
