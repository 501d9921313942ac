use Rattle.std.proofs.Common.{ap, ◌∙◌, eqb, rules, arith}
use Rattle.std.proofs.lemmas.Nat.{one_shl}
use Rattle.numbers.specs.Bits.{bit}
use Rattle.numbers.proofs.Bits.{bit_pow}
use Rattle.ranked.proofs.maps.RankedMap.around.Goals as goal

pub returns : goal.returns
returns c =
    let m = c.args.self.now in
    λ v reads. record {
      ranks = λ q d low h. let told = c.each_state.ensures q low in search rules;
      owing = λ q h. reads.owed q (omega (arith, m.few_states));
      same_turn = reads.turn;
      states =
          λ q. ap (λ x. bit x q) (one_shl c.args.node.duty 32 (omega (arith, c.args.node.small)))
          ∙ (bit_pow c.args.node.duty q ∙ ap (λ x. eqb x q) reads.duty);
    }
