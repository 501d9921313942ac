-- The least ranks of one state more.
use Rattle.std.proofs.Common.{◌≡◌, ℕ, suc, ◌+◌, ◌*◌, ◌%◌, ◌^◌, ◌<◌, ◌&&◌, Bool, true, Some, None, List, get_or, sym, subst, arith}
use Rattle.std.proofs.Math.Arith.{mod-mul}
use Rattle.std.proofs.Math.Nat.{mul_comm}
use Rattle.std.proofs.lemmas.Nat.{pow_pos}
use Rattle.numbers.specs.Bits.{bit}
use Rattle.numbers.specs.Least.{Least}
use Rattle.ranked.specs.Digits.{digit, drawn}
use Rattle.numbers.proofs.Bits.{member_below}
use Rattle.ranked.proofs.Numerals.{four_more, drawn_join, drawn_small, drawn_split}
use Rattle.ranked.proofs.Parted.{least_empty, least_here, least_next, least_none}

module _ (held : List ℕ) (q : ℕ) (small : get_or held q 0 < 2 ^ 16) where
  abbrev w : ℕ
  w = 2 ^ (4 * q)

  abbrev set : ℕ → Bool
  set e = bit (get_or held q 0) e

  abbrev below : ℕ → ℕ → Bool
  below e = drawn held q

  abbrev upto : ℕ → Bool
  upto = drawn held (suc q)

  pub digit_small : (e : ℕ) → set e ≡ true → e < 16
  digit_small e m = member_below (get_or held q 0) 16 e small m

  join : (e r : ℕ) → set e ≡ true → below e r ≡ true → upto (e * w + r) ≡ true
  join e r m b = drawn_join held q e r (digit_small e m) m b

  low : (from : ℕ) → digit from q * w + from % w ≡ from % 2 ^ (4 * suc q)
  low from = rw four_more (sym (rw mul_comm (mod-mul from {m = 16} {c = w} (omega arith) (pow_pos (4 * q)))))

  module _ (from : ℕ) where
    pub raise_here : (s : ℕ) → Least (λ x. set (digit from q) && below 0 x) (from % w) (Some s)
        → Least upto (from % 2 ^ (4 * suc q)) (Some (digit from q * w + s))
    raise_here s h =
        subst (λ x. Least upto x (Some (digit from q * w + s))) (low from)
        (least_here w (pow_pos (4 * q)) upto set below (drawn_split held q) join (λ e r. drawn_small held q r) (digit from q) (from % w) s h)

    module _ (past : Least (λ x. set (digit from q) && below 0 x) (from % w) None) where
      pub raise_next : (e s : ℕ) → Least set (digit from q + 1) (Some e) → Least (below 0) 0 (Some s)
          → Least upto (from % 2 ^ (4 * suc q)) (Some (e * w + s))
      raise_next e s h first =
          let pos = pow_pos (4 * q) in
          subst (λ x. Least upto x (Some (e * w + s))) (low from)
          (least_next w pos upto set below (drawn_split held q) join (λ e r. drawn_small held q r) (digit from q) (from % w) past e s (omega arith) h first)

      pub raise_none : Least set (digit from q + 1) None → Least upto (from % 2 ^ (4 * suc q)) None
      raise_none none =
          subst (λ x. Least upto x None) (low from)
          (least_none w (pow_pos (4 * q)) upto set below (drawn_split held q) join (λ e r. drawn_small held q r) (digit from q) (from % w) past none)

      pub raise_empty : Least (below 0) 0 None → Least upto (from % 2 ^ (4 * suc q)) None
      raise_empty none =
          subst (λ x. Least upto x None) (low from)
          (least_empty w (pow_pos (4 * q)) upto set below (drawn_split held q) join (λ e r. drawn_small held q r) (digit from q) (from % w) past (λ e m. none))
