use Rattle.std.proofs.Common.{◌≡◌, ℕ, ◌+◌, ◌*◌, ◌%◌, ◌^◌, Some, None, suc, get_or, subst, sym, ap, ◌∙◌, arith}
use Rattle.numbers.specs.Bits.{bit}
use Rattle.numbers.specs.Least.{Least}
use Rattle.ranked.specs.Digits.{digit, drawn}
use Rattle.ranked.proofs.Numerals.{drawn_small}
use Rattle.ranked.proofs.Raising.{digit_small, raise_empty, raise_here, raise_next, raise_none}
use Rattle.ranked.proofs.choices.Choices.raise.Goals as goal

pub returns-in-Some : goal.returns-in-Some
returns-in-Some c =
    let held = c.args.self.digits in
    let q : ℕ = c.args.q in
    let at : digit c.args.from q * 2 ^ (4 * q) + c.in-Some.rest ≡ c.joined.result =
    sym (c.joined.ensures ∙ ap (λ x. x * 2 ^ (4 * q) + c.in-Some.rest) c.digit-digit.ensures) in
    subst (λ x. Least (drawn held (suc q)) (c.args.from % 2 ^ (4 * suc q)) (Some x)) at
    (raise_here held q (omega arith) c.args.from c.in-Some.rest c.in-Some.ensures)

pub returns-in_err-next : goal.returns-in_err-next
returns-in_err-next c =
    let held = c.args.self.digits in
    let q : ℕ = c.args.q in
    let none : Least (λ e. bit (get_or held q 0) e) (digit c.args.from q + 1) None =
    subst (λ d. Least (λ e. bit (get_or held q 0) e) (d + 1) None) c.digit-digit.ensures c.in_err-next.ensures in
    subst (λ o. Least (drawn held (suc q)) (c.args.from % 2 ^ (4 * suc q)) o) (sym c.from_residual.ensures)
    (raise_none held q (omega arith) c.args.from c.in_default.ensures none)

pub returns-in_err-rest : goal.returns-in_err-rest
returns-in_err-rest c =
    let held = c.args.self.digits in
    let q : ℕ = c.args.q in
    let none : Least (drawn held q) 0 None = subst (λ o. Least (drawn held q) 0 o) c.in_err-rest.was c.requires.low in
    subst (λ o. Least (drawn held (suc q)) (c.args.from % 2 ^ (4 * suc q)) o) (sym c.from_residual-in_err-rest.ensures)
    (raise_empty held q (omega arith) c.args.from c.in_default.ensures none)

pub joined-requires-2 : goal.joined-requires-2
joined-requires-2 c =
    let held = c.args.self.digits in
    let q : ℕ = c.args.q in
    let first : Least (drawn held q) 0 (Some c.in_ok-rest.rest) = subst (λ o. Least (drawn held q) 0 o) c.in_ok-rest.was c.requires.low in
    let next = c.in_ok-next.ensures in
    (c.requires.state, digit_small held q (omega arith) c.in_ok-next.next next.1, drawn_small held q c.in_ok-rest.rest first.1)

pub returns : goal.returns
returns c =
    let held = c.args.self.digits in
    let q : ℕ = c.args.q in
    let first : Least (drawn held q) 0 (Some c.in_ok-rest.rest) = subst (λ o. Least (drawn held q) 0 o) c.in_ok-rest.was c.requires.low in
    let next : Least (λ e. bit (get_or held q 0) e) (digit c.args.from q + 1) (Some c.in_ok-next.next) =
    subst (λ d. Least (λ e. bit (get_or held q 0) e) (d + 1) (Some c.in_ok-next.next)) c.digit-digit.ensures c.in_ok-next.ensures in
    subst (λ x. Least (drawn held (suc q)) (c.args.from % 2 ^ (4 * suc q)) (Some x)) (sym c.joined-2.ensures)
    (raise_next held q (omega arith) c.args.from c.in_default.ensures c.in_ok-next.next c.in_ok-rest.rest next first)
