use Rattle.std.proofs.Common.{◌/◌, subst, sym, arith}
use Rattle.std.proofs.lemmas.Bool.{and_parts}
use Rattle.numbers.specs.Least.{Least}
use Rattle.ranked.specs.Choices.{chosen, rest}
use Rattle.ranked.specs.Digits.{drawn}
use Rattle.ranked.proofs.Choosing.{chosen_empty, chosen_here, chosen_next, chosen_none}
use Rattle.ranked.proofs.Numerals.{drawn_small}
use Rattle.ranked.proofs.Uppers.{rest_small}
use Rattle.ranked.proofs.choices.Choices.least.Goals as goal

pub overflow_add-result : goal.overflow_add-result
overflow_add-result c =
    let here = c.in-Some.ensures in
    let p = and_parts (drawn c.args.self.digits 6 (c.args.from / 4096)) (rest c.args.self (c.args.from / 4096) c.in-Some.rest) here.1 in
    omega (arith, rest_small c.args.self (c.args.from / 4096) (omega arith) c.in-Some.rest p.1)

pub returns-in-Some : goal.returns-in-Some
returns-in-Some c = chosen_here c.args.self (omega arith) c.args.from c.in-Some.rest c.in-Some.ensures

pub returns-in_err-next : goal.returns-in_err-next
returns-in_err-next c =
    subst (λ o. Least (chosen c.args.self) c.args.from o) (sym c.from_residual.ensures)
    (chosen_none c.args.self (omega arith) c.args.from c.in_default.ensures c.in_err-next.ensures)

pub returns-in_err-rest : goal.returns-in_err-rest
returns-in_err-rest c =
    subst (λ o. Least (chosen c.args.self) c.args.from o) (sym c.from_residual-in_err-rest.ensures)
    (chosen_empty c.args.self (omega arith) c.args.from c.in_default.ensures c.in_ok-next.next c.in_err-rest.ensures)

pub overflow_add-result-2 : goal.overflow_add-result-2
overflow_add-result-2 c =
    let next = c.in_ok-next.ensures in
    let rest = c.in_ok-rest.ensures in
    omega (arith, drawn_small c.args.self.digits 6 c.in_ok-next.next next.1, rest_small c.args.self c.in_ok-next.next (omega arith) c.in_ok-rest.rest rest.1)

pub returns : goal.returns
returns c =
    chosen_next c.args.self (omega arith) c.args.from c.in_default.ensures c.in_ok-next.next c.in_ok-rest.rest c.in_ok-next.ensures
    c.in_ok-rest.ensures
