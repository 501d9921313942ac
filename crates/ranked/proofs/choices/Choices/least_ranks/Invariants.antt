use Rattle.std.proofs.Common.{◌*◌, ◌%◌, ◌^◌}
use Rattle.numbers.specs.Least.{Least}
use Rattle.ranked.specs.Digits.{drawn}
use Rattle.ranked.proofs.choices.Choices.least_ranks.Given as goal

abbrev pub invariant-loop-q : goal.invariant-loop-q
invariant-loop-q l =
    Least (drawn l.self.digits l.q) (l.from % 2 ^ (4 * l.q)) l.best × Least (drawn l.self.digits l.q) 0 l.low
