-- The owed set as bits, and what follows from it.
use Rattle.std.proofs.Common.{◌≡◌, ℕ, suc, ◌+◌, ◌<◌, Bool, true, false, not, ◌&&◌, ◌||◌, eqb, Option, Some, None, refl, sym, ap, ◌∙◌, ⊎_elim, arith}
use Rattle.std.proofs.Math.Bool.{or_comm}
use Rattle.std.proofs.lemmas.Bool.{and_from, and_parts, both_ways, cases_eq, eq-eqb, eqb-true, false≢true, ne_eqb}
use lib.Bits.{bit_or}
use Rattle.chart.specs.Automata.{Automaton}
use Rattle.numbers.specs.Bits.{bit}
use Rattle.numbers.proofs.Bits.{bit_of_or, member_below, none_false, some_member}
use Rattle.numbers.specs.Below.{any_below}
use Rattle.numbers.proofs.Below.{any_at, any_from}
use Rattle.rank.specs.Containment.{Charts}
use Rattle.rank.specs.Layout.{parts}
use Rattle.rank.specs.Ranked.{is_number}
use Rattle.rank.specs.Rules.{follows, has_even, is_empty, is_marked, next_turn}
use Rattle.rank.proofs.Implied.{alike}
use Rattle.rank.proofs.Laws.{empty_from, empty_none, follows_from, follows_some}
use Rattle.rank.proofs.Numbers.{numbers_correspond}
use Rattle.ranked.specs.declared.nodes.Parts.{Parts}
use Rattle.ranked.specs.Reads.{Reads}
use Rattle.ranked.proofs.Upto.{bit_six}

even_some : (o : Option ℕ) → has_even o ≡ true → (r : ℕ) × (o ≡ Some r)
even_some None e = absurd (false≢true e)
even_some (Some r) e = (r, refl)

module _ (a b : Automaton) (charts : Charts a b) (v : ℕ) (e : is_number a b v ≡ true) (p : Parts) (reads : Reads v p) where
  owed_in : (q : ℕ) → (parts v).owed q ≡ true → q < b.states
  owed_in q o =
      let n = ((numbers_correspond a b charts).of_number v e).0 in
      let s = even_some ((parts v).rank q) (n.owed q o) in
      (n.ranks q s.0 s.1).0

  owed_bit : (q : ℕ) → bit p.owed q ≡ (parts v).owed q
  owed_bit q =
      alike (bit p.owed q) ((parts v).owed q)
      (λ t. sym (reads.owed q (member_below p.owed 6 q reads.small_owed t)) ∙ t)
      (λ t. reads.owed q (omega (arith, owed_in q t, charts.few_states)) ∙ t)

  empty_bits : eqb p.owed 0 ≡ is_empty b (parts v).owed
  empty_bits =
      alike (eqb p.owed 0) (is_empty b (parts v).owed)
      (λ t. empty_from b (parts v).owed
      (λ q h o. both_ways (bit 0 q) (none_false q) (ap (λ x. bit x q) (sym (eqb-true p.owed 0 t)) ∙ (owed_bit q ∙ o))))
      (λ t. ⊎_elim (eq-eqb p.owed 0)
      (λ some. let m = some_member p.owed (omega (arith, reads.small_owed)) some in
      let o = sym (owed_bit m.0) ∙ m.1 in
      absurd (empty_none b (parts v).owed m.0 t (owed_in m.0 o) o))
      (cases_eq p.owed 0))

  follows_bits : (l q : ℕ) → any_below 6 (λ k. bit p.owed k && b.step k l q) ≡ follows b (parts v).owed l q
  follows_bits l q =
      alike (any_below 6 (λ k. bit p.owed k && b.step k l q)) (follows b (parts v).owed l q)
      (λ t. let k = any_at 6 (λ k. bit p.owed k && b.step k l q) t in
      let s = and_parts (bit p.owed k.0) (b.step k.0 l q) k.2 in
      let o = sym (owed_bit k.0) ∙ s.0 in
      follows_from b (parts v).owed l k.0 q (owed_in k.0 o) o s.1)
      (λ t. let k = follows_some b (parts v).owed l q t in
      any_from 6 (λ k. bit p.owed k && b.step k l q) k.0 (omega (arith, k.1, charts.few_states))
      (and_from (bit p.owed k.0) (b.step k.0 l q) (owed_bit k.0 ∙ k.2) k.3))

  pub owing_all : p.owed ≡ 0 → (l q : ℕ) → q < b.states → bit 63 q ≡ (is_empty b (parts v).owed || follows b (parts v).owed l q)
  owing_all none l q h =
      bit_six q (omega (arith, charts.few_states))
      ∙ ap (λ t. t || follows b (parts v).owed l q) (sym (eq-eqb p.owed 0 none) ∙ empty_bits)

  pub owing_some : (p.owed ≡ 0 → ⊥) → (l q : ℕ)
      → any_below 6 (λ k. bit p.owed k && b.step k l q) ≡ (is_empty b (parts v).owed || follows b (parts v).owed l q)
  owing_some some l q =
      follows_bits l q ∙ ap (λ t. t || follows b (parts v).owed l q) (sym (ne_eqb p.owed 0 some) ∙ empty_bits)

  pub turn_after : p.turn ≡ true → not (eqb p.owed 0) ≡ next_turn a b (parts v)
  turn_after t = let set : (parts v).turn ≡ true = sym reads.turn ∙ t in rw (set, empty_bits) refl

  pub marked_bits : (p.turn && eqb p.owed 0) ≡ (is_number a b v && is_marked b (parts v))
  marked_bits = rw (e, reads.turn, empty_bits) refl

-- one more follower, or none
pub followers_with : (f : ℕ → Bool) (p s row q : ℕ) → bit s q ≡ any_below p f → bit row q ≡ f p → bit (bit_or s row) q ≡ any_below (p + 1) f
followers_with f p s row q before here =
    let next : any_below (suc p) f ≡ any_below (p + 1) f = ap (λ n. any_below n f) (let e : suc p ≡ p + 1 = omega arith in e) in
    bit_of_or s row q ∙ (or_comm (bit s q) (bit row q) ∙ (ap (λ t. t || bit s q) here ∙ (ap (λ t. f p || t) before ∙ next)))

pub followers_without : (f : ℕ → Bool) (p s q : ℕ) → bit s q ≡ any_below p f → f p ≡ false → bit s q ≡ any_below (p + 1) f
followers_without f p s q before none =
    let next : any_below (suc p) f ≡ any_below (p + 1) f = ap (λ n. any_below n f) (let e : suc p ≡ p + 1 = omega arith in e) in
    before ∙ (ap (λ t. t || any_below p f) (sym none) ∙ next)
