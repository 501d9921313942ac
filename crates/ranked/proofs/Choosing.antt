-- The least chosen number, by its ranks and the bits below them.
use Rattle.std.proofs.Common.{◌≡◌, ℕ, ◌+◌, ◌*◌, ◌/◌, ◌%◌, ◌^◌, ◌<◌, ◌&&◌, true, Some, None, Option, sym, subst, arith}
use Rattle.std.proofs.lemmas.Bool.{and_from, and_parts}
use Rattle.std.proofs.lemmas.Nat.{div-mul-add, mod-mul-add}
use Rattle.numbers.specs.Least.{Least}
use Rattle.ranked.specs.declared.choices.Choices.{Choices}
use Rattle.ranked.specs.Choices.{rest, chosen}
use Rattle.ranked.specs.Digits.{drawn}
use Rattle.ranked.proofs.Parted.{least_empty, least_here, least_next, least_none}
use Rattle.ranked.proofs.Uppers.{rest_none, rest_small}

module _ (c : Choices) (duty : c.duty < 2 ^ 32) where
  split : (y : ℕ) → chosen c y ≡ true → (drawn c.digits 6 (y / 4096) ≡ true) × (rest c (y / 4096) (y % 4096) ≡ true)
  split y e = and_parts (drawn c.digits 6 (y / 4096)) (rest c (y / 4096) (y % 4096)) e

  chosen_join : (f r : ℕ) → drawn c.digits 6 f ≡ true → rest c f r ≡ true → chosen c (f * 4096 + r) ≡ true
  chosen_join f r m e =
      let small = rest_small c f duty r e in
      let top : f ≡ (f * 4096 + r) / 4096 = sym (div-mul-add f 4096 r small) in
      let low : r ≡ (f * 4096 + r) % 4096 = sym (mod-mul-add f 4096 r small) in
      and_from (drawn c.digits 6 ((f * 4096 + r) / 4096)) (rest c ((f * 4096 + r) / 4096) ((f * 4096 + r) % 4096))
      (subst (λ x. drawn c.digits 6 x ≡ true) top m)
      (subst (λ x. rest c ((f * 4096 + r) / 4096) x ≡ true) low (subst (λ x. rest c x r ≡ true) top e))

  small : (f r : ℕ) → rest c f r ≡ true → r < 4096
  small f r e = rest_small c f duty r e

  module _ (from : ℕ) where
    abbrev top : ℕ
    top = from / 4096

    abbrev low : ℕ
    low = from % 4096

    moved : (o : Option ℕ) → Least (chosen c) (top * 4096 + low) o → Least (chosen c) from o
    moved o = subst (λ x. Least (chosen c) x o) (let e : top * 4096 + low ≡ from = omega arith in e)

    pub chosen_here : (s : ℕ) → Least (λ x. drawn c.digits 6 top && rest c top x) low (Some s) → Least (chosen c) from (Some (top * 4096 + s))
    chosen_here s h =
        moved (Some (top * 4096 + s)) (least_here 4096 (omega arith) (chosen c) (drawn c.digits 6) (rest c) split chosen_join small top low s h)

    module _ (past : Least (λ x. drawn c.digits 6 top && rest c top x) low None) where
      pub chosen_next : (f s : ℕ) → Least (drawn c.digits 6) (top + 1) (Some f) → Least (rest c f) 0 (Some s) → Least (chosen c) from (Some (f * 4096 + s))
      chosen_next f s h first =
          moved (Some (f * 4096 + s))
          (least_next 4096 (omega arith) (chosen c) (drawn c.digits 6) (rest c) split chosen_join small top low past f s (omega arith) h first)

      pub chosen_none : Least (drawn c.digits 6) (top + 1) None → Least (chosen c) from None
      chosen_none none = moved None (least_none 4096 (omega arith) (chosen c) (drawn c.digits 6) (rest c) split chosen_join small top low past none)

      -- no ranks have a rest if some have none
      pub chosen_empty : (f : ℕ) → Least (rest c f) 0 None → Least (chosen c) from None
      chosen_empty f none = moved None (least_empty 4096 (omega arith) (chosen c) (drawn c.digits 6) (rest c) split chosen_join small top low past (λ e m. rest_none c f e none))
