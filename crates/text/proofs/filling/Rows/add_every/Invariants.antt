use Rattle.std.proofs.Common.{◌&&◌, eqb, ltb}
use Rattle.text.specs.Rows.{Adds}
use Rattle.text.proofs.filling.Rows.add_every.Given as goal

abbrev pub invariant-loop-i : goal.invariant-loop-i
invariant-loop-i l = Adds l.initial.self l.self (λ p j q. eqb l.from p && (ltb j l.i && eqb l.to q))
