-- Which numbers are even.
use Rattle.std.proofs.Common.{◌≡◌, ℕ, suc, ◌*◌, true, false, arith}
use Rattle.std.proofs.lemmas.Bool.Decides.{nat_tests}
use Rattle.rank.specs.Rules.{is_even}

pub even_double : (d : ℕ) → is_even (2 * d) ≡ true
even_double d = grind (arith, nat_tests)

pub odd_double : (d : ℕ) → is_even (suc (2 * d)) ≡ false
odd_double d = grind (arith, nat_tests)
