-- The numbers of a range, and marked nodes of a part of a table.
use Rattle.std.proofs.Common.{◌≡◌, ℕ, ◌+◌, ◌-◌, ◌<◌, Bool, true, false, List, length, Some, None, Option, MatchOption, map, get_or, sym, refl, ap, ◌∙◌, subst, arith, zero-add, Decides}
use Rattle.std.specs.Bool.{MatchBool}
use Rattle.std.specs.List.{range_with_len, AllWithin, HoldsAt}
use Rattle.std.proofs.lemmas.Bool.{true≢false}
use Rattle.std.proofs.lemmas.List.{get_or-map, length-map}
use Rattle.std.proofs.lemmas.List.FromFn.{length-range_with_len, get_or-range_with_len}
use Rattle.graph.specs.Graphs.{Graph}
use Rattle.records.specs.declared.record.Record.{Record}
use Rattle.records.specs.Tables.{blank, node_at}
use Rattle.search.specs.Weights.{Unmarked, MarkedIn}

-- what holds of a number of a range, or of none
module _ (n : ℕ) (P : ℕ → Type 0) where
  at_place : (k : ℕ) → k < n → get_or (range_with_len 0 n) k 0 ≡ k
  at_place k h = get_or-range_with_len 0 n k 0 h ∙ zero-add k

  pub some_below : (r : Bool)
      → MatchBool r ((k : ℕ) × (k < length (range_with_len 0 n)) × HoldsAt P (range_with_len 0 n) k) (AllWithin (λ x. P x → ⊥) (range_with_len 0 n) 0 (length (range_with_len 0 n)))
      → Decides r ((k : ℕ) × (k < n) × P k)
  some_below true (k, lt, holds) =
      let h : k < n = omega (arith, length-range_with_len 0 n) in
      (λ e. (k, h, subst P (at_place k h) (holds 0)), λ p. refl)
  some_below false none = (
    λ e. absurd (true≢false (sym e)),
    λ (k, h, p). absurd (none k 0 (omega arith) (omega (arith, length-range_with_len 0 n)) (subst P (sym (at_place k h)) p)),
  )

-- the first marked node of a part, where there is one
module _ (g : Graph) (a b : ℕ) (work part : List Record) (len : length part ≡ b - a)
    (is_part : (i : ℕ) → i < b - a → node_at part i ≡ node_at work (a + i)) where
  marked_node : (i : ℕ) → i < b - a → get_or (map (λ (r : Record). r.node) part) i 0 ≡ node_at work (a + i)
  marked_node i h = get_or-map (λ (r : Record). r.node) part i blank 0 (omega arith) ∙ is_part i h

  pub marked_in_part : (r : Option ℕ)
      → MatchOption r
      (AllWithin (λ v. g.marked v ≡ false) (map (λ (r : Record). r.node) part) 0 (length (map (λ (r : Record). r.node) part)))
      (λ v. (g.marked v ≡ true) × (i : ℕ) × (i < length (map (λ (r : Record). r.node) part)) × HoldsAt (λ w. w ≡ v) (map (λ (r : Record). r.node) part) i
      × AllWithin (λ v. g.marked v ≡ false) (map (λ (r : Record). r.node) part) 0 i)
      → MatchOption r (Unmarked g a b work) (MarkedIn g a b work)
  marked_in_part None none =
      λ u au ub marked.
      let back : a + (u - a) ≡ u = omega arith in
      let same : get_or (map (λ (r : Record). r.node) part) (u - a) 0 ≡ node_at work u = marked_node (u - a) (omega arith) ∙ ap (node_at work) back in
      true≢false (sym marked ∙ subst (λ v. g.marked v ≡ false) same (none (u - a) 0 (omega arith) (omega (arith, length-map part (λ (r : Record). r.node)))))
  marked_in_part (Some v) (marked, i, lt, holds, before) =
      let inside : i < b - a = omega (arith, length-map part (λ (r : Record). r.node)) in
      (a + i, omega arith, omega arith, sym (marked_node i inside) ∙ holds 0, marked)
