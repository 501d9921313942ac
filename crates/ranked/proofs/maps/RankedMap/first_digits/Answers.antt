use Rattle.std.proofs.Common.{ℕ, ◌+◌, ◌*◌, ap, ◌∙◌, sym, arith}
use Rattle.std.proofs.lemmas.Nat.{one_shl}
use Rattle.numbers.specs.Bits.{bit}
use Rattle.numbers.proofs.Bits.{bit_pow}
use Rattle.ranked.specs.Maps.{rule_of}
use Rattle.ranked.proofs.Ranking.{first_of_other, first_of_start}
use Rattle.ranked.proofs.maps.RankedMap.first_digits.Goals as goal

pub returns-then-contains : goal.returns-then-contains
returns-then-contains c =
    let few = c.args.self.now.few_states in
    let k : ℕ = 2 * c.args.self.now.rule.states + 1 in
    λ d h. ap (λ x. bit x d) (one_shl k 16 (omega arith))
    ∙ (bit_pow k d ∙ first_of_start (rule_of c.args.self.now) c.args.q k (omega arith) (sym c.if-contains.ensures) d)

pub returns-else-contains : goal.returns-else-contains
returns-else-contains c = first_of_other (rule_of c.args.self.now) c.args.q (sym c.if-contains.ensures)
