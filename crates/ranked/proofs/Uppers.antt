-- The bits below the ranks of a chosen number.
use Rattle.std.proofs.Common.{◌≡◌, ℕ, ◌+◌, ◌-◌, ◌%◌, ◌^◌, ◌<◌, ◌≤◌, ◌&&◌, true, eqb, leb, Some, None, arith}
use Rattle.std.proofs.lemmas.Bool.{and_from, and_parts, le-leb, leb-true}
use Rattle.numbers.specs.Bits.{bit}
use Rattle.numbers.specs.Least.{Least}
use Rattle.rank.specs.Layout.{flag}
use Rattle.rank.proofs.Fields.{fields_small}
use Rattle.rank.proofs.Numbers.{flag_small}
use Rattle.ranked.specs.declared.choices.Choices.{Choices}
use Rattle.ranked.specs.Choices.{owed, upper, rest}
use Rattle.ranked.specs.Digits.{digit}
use Rattle.numbers.proofs.Bits.{member_below}

module _ (c : Choices) (f : ℕ) where
  pub owed_small : owed c f < 64
  owed_small =
      let set = λ (q : ℕ). flag (eqb (digit f q % 2) 1 && bit c.owing q) in
      fields_small 1 set 6 (λ q h. flag_small (eqb (digit f q % 2) 1 && bit c.owing q))

  pub upper_small : upper c f + 32 ≤ 4096
  upper_small = omega (arith, owed_small, flag_small c.turn)

  pub rest_small : c.duty < 2 ^ 32 → (r : ℕ) → rest c f r ≡ true → r < 4096
  rest_small duty r e =
      let p = and_parts (leb (upper c f) r) (bit c.duty (r - upper c f)) e in
      omega (arith, leb-true (upper c f) r p.0, member_below c.duty 32 (r - upper c f) duty p.1, upper_small)

  rest_from : (q : ℕ) → bit c.duty q ≡ true → rest c f (upper c f + q) ≡ true
  rest_from q b =
      let same : upper c f + q - upper c f ≡ q = omega arith in
      and_from (leb (upper c f) (upper c f + q)) (bit c.duty (upper c f + q - upper c f)) (le-leb (upper c f) (upper c f + q) (omega arith))
      (rw same b)

  -- the least state of the duty makes the least rest
  pub least_rest_some : (from q : ℕ) → Least (bit c.duty) (from - upper c f) (Some q) → Least (rest c f) from (Some (upper c f + q))
  least_rest_some from q (low, b, none) = (
    omega arith,
    rest_from q b,
    λ r h less e. let p = and_parts (leb (upper c f) r) (bit c.duty (r - upper c f)) e in
        let le = leb-true (upper c f) r p.0 in
        none (r - upper c f) (omega arith) (omega arith) p.1,
  )

  pub least_rest_none : (from : ℕ) → Least (bit c.duty) (from - upper c f) None → Least (rest c f) from None
  least_rest_none from none =
      λ r h e. let p = and_parts (leb (upper c f) r) (bit c.duty (r - upper c f)) e in none (r - upper c f) (omega arith) p.1

-- where some ranks go with no rest, the duty has no state, and none do
pub rest_none : (c : Choices) (f e : ℕ) → Least (rest c f) 0 None → Least (rest c e) 0 None
rest_none c f e none =
    λ r h t. let p = and_parts (leb (upper c e) r) (bit c.duty (r - upper c e)) t in
    none (upper c f + (r - upper c e)) (omega arith) (rest_from c f (r - upper c e) p.1)
