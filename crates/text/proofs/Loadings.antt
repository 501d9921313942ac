-- What a text that was read, and rows that were filled, amount to.
use Rattle.std.proofs.Common.{◌≡◌, ℕ, ◌+◌, ◌*◌, ◌<◌, ◌≤◌, Bool, true, false, ◌&&◌, ◌||◌, eqb, ltb, List, [], ◌∷◌, All, length, get_or, sym, refl, ap, ◌∙◌, subst, ⊎_elim, arith}
use Rattle.chart.specs.Automata.{Automaton, Allowed}
use Rattle.chart.specs.Kinds.{table}
use Rattle.numbers.specs.Bits.{bit}
use Rattle.numbers.proofs.Bits.{none_false}
use Rattle.fault.specs.declared.TextFault.{TextFault}
use Rattle.fault.specs.declared.TextFault.TheVariants.{Form, Range}
use Rattle.std.proofs.Math.Bool.{or-false}
use Rattle.std.proofs.lemmas.List.{get_or_past}
use Rattle.std.proofs.lemmas.List.Elements.{All-head, All-tail}
use Rattle.std.proofs.lemmas.Bool.{and_parts, or_cases, eqb-true, ltb-true, lt-ltb, le-ltb, cases_lt, false_from_ne_true}
use Rattle.text.proofs.Cells.{index_within}
use Rattle.text.proofs.Onwards.{told_not_fine}
use Rattle.text.proofs.Outcomes.{Outcome, outcome, read_written}
use Rattle.text.proofs.Unique.{wrong_once}
use Rattle.text.specs.Documents.{Document, written, no_state, means, covers, tells_step, some_tells, ByFits, StepFits, InRange, Tells}
use Rattle.text.specs.Loads.{Filled, Short}
use Rattle.text.specs.Reading.{fine, verdict, Told, Surveyed, Numbers}
use Rattle.text.specs.Refused.{TextRefused, WrongAt}
use Rattle.text.specs.Rows.{cell, Added}
use Rattle.text.specs.declared.entries.By.{By}
use Rattle.text.specs.declared.entries.By.TheVariants.{Letter, Every}
use Rattle.text.specs.declared.entries.StateLine.{StateLine}
use Rattle.text.specs.declared.entries.StepLine.{StepLine}
use Rattle.text.specs.declared.loading.Loaded.{Loaded}

verdict_told : (text : List ℕ) (m : Automaton) (t : Tells text m) → verdict text ≡ fine t.document
verdict_told text m t = ap verdict (sym t.is) ∙ read_written t.document t.in_range

wrong_at : (text : List ℕ) (e : TextFault) → Told (verdict text) e → WrongAt text e
wrong_at text (Form n) t = subst (Outcome text) t (outcome text)
wrong_at text (Range n) t = subst (Outcome text) t (outcome text)

pub refused : (text : List ℕ) (e : TextFault) → Told (verdict text) e → TextRefused text e
refused text e t =
    record {
      none = λ m w. told_not_fine (verdict text) e w.document t (verdict_told text m w);
      wrong = wrong_at text e t;
      only = λ f w. wrong_once text f e w (wrong_at text e t);
    }

fine_told : (text : List ℕ) (d : Document) → verdict text ≡ fine d → InRange d × (written d ≡ text)
fine_told text d e = subst (Outcome text) e (outcome text)

pub too_short : (text was : List ℕ) (l : Loaded) → Surveyed text l → length was < l.states * l.letters → Short text was
too_short text was l s h =
    let d = s.document in
    let f = fine_told text d s.verdict_is in
    record {
      chart = means d;
      tells = record { document = d; in_range = f.0; is = f.1; meaning = refl };
      few = subst (λ k. length was < length d.states * k) s.numbers.letters (subst (λ n. length was < n * l.letters) s.numbers.states h);
    }

-- A guard that holds wherever what it guards does changes nothing.
guarded : (a b : Bool) → (b ≡ true → a ≡ true) → (a && b) ≡ b
guarded true b h = refl
guarded false true h = h refl
guarded false false h = refl

flag_guard : (g : StateLine → Bool) → g no_state ≡ false → (n set : ℕ) (xs : List StateLine) → n ≡ length xs → ((q : ℕ) → bit set q ≡ g (get_or xs q no_state)) → (q : ℕ) → (ltb q n && bit set q) ≡ g (get_or xs q no_state)
flag_guard g none n set xs e h q =
    ⊎_elim (λ (l : q < n). ap (λ b. b && bit set q) (lt-ltb q n l) ∙ h q)
    (λ (l : n ≤ q). ap (λ b. b && bit set q) (le-ltb q n l) ∙ sym (ap g (get_or_past xs q no_state (omega arith)) ∙ none))
    (cases_lt q n)

covers_within : (k : ℕ) (b : By) (i : ℕ) → ByFits k b → covers k b i ≡ true → i < k
covers_within k (Letter j) i f e = let s : j ≡ i = eqb-true j i e in omega arith
covers_within k Every i f e = ltb-true i k e

-- a step that is told is within the chart
tells_within : (k n : ℕ) (ts : List StepLine) → All (StepFits k n) ts → (p i q : ℕ) → some_tells k ts p i q ≡ true → (p < n) × (i < k) × (q < n)
tells_within k n [] h p i q e = cc
tells_within k n (t ∷ ts) h p i q e =
    ⊎_elim
    (λ (x : tells_step k t p i q ≡ true).
    let a = and_parts (eqb t.from p) (covers k t.by i && eqb t.to q) x in
    let b = and_parts (covers k t.by i) (eqb t.to q) a.1 in
    let f : t.from ≡ p = eqb-true t.from p a.0 in
    let g : t.to ≡ q = eqb-true t.to q b.1 in
    let u = All-head (StepFits k n) t ts h in
    (omega arith, covers_within k t.by i u.1 b.0, omega arith))
    (λ (x : some_tells k ts p i q ≡ true). tells_within k n ts (All-tail (StepFits k n) t ts h) p i q x)
    (or_cases (tells_step k t p i q) (some_tells k ts p i q) e)

step_guard : (n k : ℕ) (ts : List StepLine) (cell : Bool) (p i q : ℕ) → All (StepFits k n) ts → (p < n → i < k → cell ≡ some_tells k ts p i q) → (ltb p n && (ltb i k && (ltb q n && cell))) ≡ some_tells k ts p i q
step_guard n k ts cell p i q fit h =
    let w : some_tells k ts p i q ≡ true → (p < n) × (i < k) × (q < n) = tells_within k n ts fit p i q in
    ⊎_elim
    (λ (a : p < n). ⊎_elim
    (λ (b : i < k). rw (lt-ltb p n a, lt-ltb i k b, h a b) (guarded (ltb q n) (some_tells k ts p i q) (λ e. lt-ltb q n (w e).2)))
    (λ (b : k ≤ i). rw (lt-ltb p n a, le-ltb i k b) (sym (false_from_ne_true (some_tells k ts p i q) (λ e. let x = (w e).1 in omega arith))))
    (cases_lt i k))
    (λ (a : n ≤ p). rw (le-ltb p n a) (sym (false_from_ne_true (some_tells k ts p i q) (λ e. let x = (w e).0 in omega arith))))
    (cases_lt p n)

-- the table that was filled is the document's chart
same_chart : (d : Document) (l : Loaded) (rows : List ℕ) → InRange d → Numbers l d → ((p i q : ℕ) → p < l.states → i < l.letters → cell rows l.letters p i q ≡ some_tells l.letters d.steps p i q) → table l.states l.letters l.starts l.marks rows ≡ means d
same_chart d l rows r h cells =
    let fit = subst (λ n. All (StepFits l.letters n) d.steps) (sym h.states) (subst (λ k. All (StepFits k (length d.states)) d.steps) (sym h.letters) r.steps_fit) in
    (λ j. record {
      states = h.states j;
      letters = h.letters j;
      start = λ q. flag_guard (λ x. x.start) refl l.states l.starts d.states h.states h.starts q j;
      mark = λ q. flag_guard (λ x. x.mark) refl l.states l.marks d.states h.states h.marks q j;
      step =
          λ a i q. (step_guard l.states l.letters d.steps (ltb i l.letters && cell rows l.letters a i q) a i q fit
          (λ p h. ap (λ b. b && cell rows l.letters a i q) (lt-ltb i l.letters h) ∙ cells a i q p h) ∙ ap (λ k. some_tells k d.steps a i q) h.letters) j;
    })

module _ (l : Loaded) (mid rows : List ℕ) (f : ℕ → ℕ → ℕ → Bool) (empty : (j : ℕ) → j < l.states * l.letters → get_or mid j 0 ≡ 0) (h : Added l mid rows f) where
  no_bit : (j q : ℕ) → j < l.states * l.letters → bit (get_or mid j 0) q ≡ false
  no_bit j q x = ap (λ y. bit y q) (empty j x) ∙ none_false q

  -- rows that were empty hold what was added, and nothing else
  held : (p i q : ℕ) → p < l.states → i < l.letters → cell rows l.letters p i q ≡ f p i q
  held p i q hp hi =
      h.cells p i q hp hi
      ∙ ap (λ b. f p i q || b) (no_bit (p * l.letters + i) q (index_within l.states l.letters p i (l.states * l.letters) hp hi (omega arith)))
      ∙ or-false (f p i q)

pub loaded : (text was mid rows : List ℕ) (l : Loaded) → Surveyed text l → l.states * l.letters ≤ length was → ((j : ℕ) → j < l.states * l.letters → get_or mid j 0 ≡ 0) → ((j : ℕ) → l.states * l.letters ≤ j → get_or mid j 0 ≡ get_or was j 0) → ((d : Document) → verdict text ≡ fine d → Added l mid rows (some_tells l.letters d.steps)) → Filled text was rows l
loaded text was mid rows l s enough cleared past fills =
    let d = s.document in
    let n = s.numbers in
    let f = fine_told text d s.verdict_is in
    let h = fills d s.verdict_is in
    let same : table l.states l.letters l.starts l.marks rows ≡ means d =
    same_chart d l rows f.0 n (held l mid rows (some_tells l.letters d.steps) cleared h) in
    record {
      tells = record { document = d; in_range = f.0; is = f.1; meaning = sym same };
      only =
          λ m t. let e : t.document ≡ d = cc (sym (verdict_told text m t) ∙ s.verdict_is) in
          sym t.meaning ∙ ap means e ∙ sym same;
      allowed =
          subst (λ x. Allowed x l.letters) (sym n.states)
          (subst (λ x. Allowed (length d.states) x) (sym n.letters) f.0.size);
      enough = enough;
      clean = h.clean (λ j x q y. no_bit l mid rows (some_tells l.letters d.steps) cleared h j q x);
      clean_starts = λ q y. n.starts q ∙ ap (λ x. x.start) (get_or_past d.states q no_state (omega arith));
      clean_marks = λ q y. n.marks q ∙ ap (λ x. x.mark) (get_or_past d.states q no_state (omega arith));
      past = λ j x. h.past j x ∙ past j x;
    }
