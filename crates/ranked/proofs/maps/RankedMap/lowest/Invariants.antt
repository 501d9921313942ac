use Rattle.ranked.specs.Following.{LowestBelow}
use Rattle.ranked.specs.Maps.{rule_of}
use Rattle.ranked.proofs.maps.RankedMap.lowest.Given as goal

abbrev pub invariant-loop-p : goal.invariant-loop-p
invariant-loop-p l = LowestBelow l.p (rule_of l.self) l.ranks l.letter l.q l.least
