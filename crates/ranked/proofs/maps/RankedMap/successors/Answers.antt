use Rattle.std.proofs.Common.{ap, ◌∙◌, rules}
use Rattle.ranked.specs.Maps.{duty_of}
use Rattle.ranked.proofs.maps.RankedMap.successors.Goals as goal

pub returns : goal.returns
returns c =
    let a = duty_of c.args.self.now in
    λ v reads e. record {
      ranks = λ q d low h. let told = c.each_state.ensures q low in search rules;
      owing = c.owing.ensures v reads e;
      same_turn = c.next_turn.ensures v reads e;
      states = λ q. c.steps.ensures q ∙ ap (λ x. a.step x c.args.letter q) reads.duty;
    }
