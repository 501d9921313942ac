use Rattle.std.proofs.Common.{refl, rules}
use Rattle.numbers.proofs.Bits.{none_false}
use Rattle.ranked.proofs.maps.RankedMap.starts.Goals as goal

pub returns : goal.returns
returns c =
    record {
      ranks = λ q d low h. let told = c.each_state.ensures q low in search rules;
      owing = λ q h. none_false q;
      same_turn = refl;
      states = λ q. refl;
    }
