-- Rows after more steps.
use Rattle.std.proofs.Common.{◌≡◌, ℕ, ◌+◌, ◌*◌, ◌<◌, ◌≤◌, Bool, false, ◌&&◌, ◌||◌, eqb, ◌≢◌, List, length, get_or, set, sym, refl, ap, ◌∙◌, subst, ⊎_elim, arith}
use Rattle.numbers.specs.Bits.{bit}
use Rattle.std.proofs.Math.Bool.{or_assoc}
use Rattle.std.proofs.lemmas.Nat.{mul-add-lt, same_from_place}
use Rattle.std.proofs.lemmas.List.{get_or-set_same, get_or-set_other}
use Rattle.std.proofs.lemmas.Bool.{cases_eq, eq-eqb, ne_eqb, and_right}
use Rattle.text.specs.Rows.{cell, Added, Adds}
use Rattle.text.specs.declared.filling.Rows.{Rows}
use Rattle.text.specs.declared.loading.Loaded.{Loaded}

pub index_within : (n k p i len : ℕ) → p < n → i < k → n * k ≤ len → p * k + i < len
index_within n k p i len h l e = omega (arith, mul-add-lt p k i n h l)

module _ (l : Loaded) (was : List ℕ) (a b to w : ℕ) (ha : a < l.states) (hb : b < l.letters) (enough : l.states * l.letters ≤ length was) where
  here : a * l.letters + b < length was
  here = index_within l.states l.letters a b (length was) ha hb enough

  elsewhere : (p i q : ℕ) → i < l.letters → (F : Bool) → F ≡ false → ((p ≡ a) × (i ≡ b) → ⊥) → cell (set was (a * l.letters + b) w) l.letters p i q ≡ (F || cell was l.letters p i q)
  elsewhere p i q h F f apart =
      let ne : p * l.letters + i ≢ a * l.letters + b = λ e. apart (same_from_place p i a b l.letters h hb e) in
      rw (get_or-set_other was (a * l.letters + b) (p * l.letters + i) w 0 ne, f) refl

  pub added_letter : to < l.states → ((q : ℕ) → bit w q ≡ (eqb to q || bit (get_or was (a * l.letters + b) 0) q)) → Added l was (set was (a * l.letters + b) w) (λ p i q. eqb a p && (eqb b i && eqb to q))
  added_letter within bits =
      record {
        cells =
            λ p i q hp hi.
            ⊎_elim
            (λ (e : a ≡ p). ⊎_elim
            (λ (f : b ≡ i). let at : p * l.letters + i ≡ a * l.letters + b = ap (λ x. x * l.letters + i) (sym e) ∙ ap (λ x. a * l.letters + x) (sym f) in
            rw (eq-eqb a p e, eq-eqb b i f)
            (ap (λ x. bit (get_or (set was (a * l.letters + b) w) x 0) q) at
            ∙ ap (λ x. bit x q) (get_or-set_same was (a * l.letters + b) w 0 here) ∙ bits q
            ∙ ap (λ x. eqb to q || bit (get_or was x 0) q) (sym at)))
            (λ (f : b ≡ i → ⊥). elsewhere p i q hi (eqb a p && (eqb b i && eqb to q))
            (and_right (eqb a p) (eqb b i && eqb to q) (ap (λ x. x && eqb to q) (ne_eqb b i f))) (λ s. f (sym s.1)))
            (cases_eq b i))
            (λ (e : a ≡ p → ⊥). elsewhere p i q hi (eqb a p && (eqb b i && eqb to q))
            (ap (λ x. x && (eqb b i && eqb to q)) (ne_eqb a p e)) (λ s. e (sym s.0)))
            (cases_eq a p);
        clean =
            λ c j hj q hq. ⊎_elim
            (λ (e : j ≡ a * l.letters + b). rw (e, get_or-set_same was (a * l.letters + b) w 0 here)
            (bits q ∙ ap (λ x. x || bit (get_or was (a * l.letters + b) 0) q) (ne_eqb to q (λ f. omega arith))
            ∙ subst (λ x. bit (get_or was x 0) q ≡ false) e (c j hj q hq)))
            (λ (e : j ≡ a * l.letters + b → ⊥). rw (get_or-set_other was (a * l.letters + b) j w 0 e) (c j hj q hq)) (cases_eq j (a * l.letters + b));
        past =
            λ j hj. get_or-set_other was (a * l.letters + b) j w 0
            (λ e. omega (arith, index_within l.states l.letters a b (l.states * l.letters) ha hb (omega arith)));
      }

pub adds_more : (was mid rows : Rows) (f g h : ℕ → ℕ → ℕ → Bool) → Adds was mid f → Adds mid rows g → ((p i q : ℕ) → h p i q ≡ (g p i q || f p i q)) → Adds was rows h
adds_more was mid rows f g h one two joins =
    let more : Added was.chart mid.cells.now rows.cells.now g = subst (λ (l : Loaded). Added l mid.cells.now rows.cells.now g) one.chart two.added in
    let k = was.chart.letters in
    record {
      same_reference = two.same_reference ∙ one.same_reference;
      chart = two.chart ∙ one.chart;
      added =
          record {
            cells =
                λ p i q hp hi. more.cells p i q hp hi ∙ ap (λ x. g p i q || x) (one.added.cells p i q hp hi)
                ∙ sym (or_assoc (g p i q) (f p i q) (cell was.cells.now k p i q))
                ∙ ap (λ x. x || cell was.cells.now k p i q) (sym (joins p i q));
            clean = λ c. more.clean (one.added.clean c);
            past = λ j hj. more.past j hj ∙ one.added.past j hj;
          };
    }
