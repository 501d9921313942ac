-- Both ways between a line and its entry.
use Rattle.std.proofs.Common.{◌≡◌, ℕ, ◌+◌, ◌-◌, ◌*◌, ◌/◌, ◌%◌, ◌<◌, ◌≤◌, Bool, true, false, cond, ◌&&◌, eqb, List, [], ◌∷◌, ◌++◌, Some, None, codes, Option, sym, refl, ap, ◌∙◌, subst, inl, inr, ⊎_elim, arith}
use Rattle.std.proofs.lemmas.List.Elements.{All-nil, All-cons, All-append, All-from_recursion}
use Rattle.std.proofs.lemmas.Bool.{and_parts, le-leb, lt-leb, ne_eqb, cases_lt}
use Rattle.std.specs.Option.{option_map}
use Rattle.text.proofs.Cuts.{Other, Plain, pieces_plain, pieces_cut}
use Rattle.text.proofs.Wordings.{is_word, is_three, IsThree, numeral_text, flag_text_lem, by_text_lem, named_text, make_state_lem, make_step_lem, Belongs, digits_one, digits_two}
use Rattle.text.specs.Documents.{digits, flag_text, by_text, state_text, step_text, entry_text, LegibleBy, Legible}
use Rattle.text.specs.Pieces.{front, later}
use Rattle.text.specs.Words.{number, within, word_of, Three, three_of, three_words, numeral, flag, by_of, named, state_of, step_of, make_state, make_step, heads, read_columns, read_state, read_step, read_entry}
use Rattle.text.specs.declared.entries.By.{By}
use Rattle.text.specs.declared.entries.By.TheVariants.{Letter, Every}
use Rattle.text.specs.declared.entries.Entry.{Entry}
use Rattle.text.specs.declared.entries.Entry.TheVariants.{Title, Count, Columns, State, Heading, Step}
use Rattle.text.specs.declared.entries.Stage.{Stage}
use Rattle.text.specs.declared.entries.Stage.TheVariants.{AtTitle, AtCount, AtColumns, AtStates, AtSteps}
use Rattle.text.specs.declared.entries.StateLine.{StateLine}
use Rattle.text.specs.declared.entries.StepLine.{StepLine}

-- the line is that of an entry that the stage takes
pub record IsEntry (s : Stage) (line : List ℕ) (e : Entry) : Type 0 where
  pub text : line ≡ entry_text e
  pub legible : Legible e
  pub belongs : Belongs s e

at_entry : (s : Stage) (line : List ℕ) (x e : Entry) → x ≡ e → IsEntry s line x → IsEntry s line e
at_entry s line x e p h = subst (IsEntry s line) p h

heading_text : (a b c line : List ℕ) (t : Three) → heads a b c t ≡ true → IsThree line t → line ≡ a ++ 32 ∷ (b ++ 32 ∷ c)
heading_text a b c line t e i =
    let p = and_parts (named a t.first) (named b t.second && named c t.third) e in
    let q = and_parts (named b t.second) (named c t.third) p.1 in
    cc (i.text, named_text a t.first p.0, named_text b t.second q.0, named_text c t.third q.1)

title_text : (line : List ℕ) (b : Bool) (e : Entry) → named (codes "letters") (word_of line) ≡ b → cond b (Some Title) None ≡ Some e → IsEntry AtTitle line e
title_text line true e n r =
    at_entry AtTitle line Title e (cc)
    (record { text = sym (is_word line).text ∙ named_text (codes "letters") (word_of line) n; legible = tt; belongs = refl })
title_text line false e n r = cc

count_text : (line : List ℕ) (o : Option ℕ) (e : Entry) → numeral (word_of line) ≡ o → option_map Count o ≡ Some e → IsEntry AtCount line e
count_text line None e n r = cc
count_text line (Some k) e n r =
    let t = numeral_text (word_of line) k n (is_word line).fits in
    at_entry AtCount line (Count k) e (cc)
    (record { text = sym (is_word line).text ∙ t.0; legible = t.1; belongs = (k, refl) })

columns_text : (line : List ℕ) (o : Option Three) (e : Entry) → three_words line ≡ o → read_columns o ≡ Some e → IsEntry AtColumns line e
columns_text line None e w r = cc
columns_text line (Some t) e w r = by (heads (codes "state") (codes "start") (codes "mark") t) refl r
  where
    by : (b : Bool) → heads (codes "state") (codes "start") (codes "mark") t ≡ b → cond b (Some Columns) None ≡ Some e → IsEntry AtColumns line e
    by true h r =
        at_entry AtColumns line Columns e (cc)
        (record { text = heading_text (codes "state") (codes "start") (codes "mark") line t h (is_three line t w); legible = tt; belongs = refl })
    by false h r = cc

state_text_lem : (line : List ℕ) (t : Three) (o : Option StateLine) (e : Entry) → IsThree line t → state_of t ≡ o → option_map State o ≡ Some e → IsEntry AtStates line e
state_text_lem line t None e i m r = cc
state_text_lem line t (Some s) e i m r =
    let p = make_state_lem (numeral t.first) (flag 62 t.second) (flag 42 t.third) s m in
    let n = numeral_text t.first s.number p.0 i.first in
    at_entry AtStates line (State s) e (cc)
    (record {
      text = cc (i.text, n.0, flag_text_lem 62 t.second s.start p.1, flag_text_lem 42 t.third s.mark p.2);
      legible = n.1;
      belongs = inr (s, refl);
    })

states_text : (line : List ℕ) (o : Option Three) (e : Entry) → three_words line ≡ o → read_state o ≡ Some e → IsEntry AtStates line e
states_text line None e w r = cc
states_text line (Some t) e w r = by (heads (codes "from") (codes "by") (codes "to") t) refl r
  where
    by : (b : Bool) → heads (codes "from") (codes "by") (codes "to") t ≡ b → cond b (Some Heading) (option_map State (state_of t)) ≡ Some e → IsEntry AtStates line e
    by true h r =
        at_entry AtStates line Heading e (cc)
        (record { text = heading_text (codes "from") (codes "by") (codes "to") line t h (is_three line t w); legible = tt; belongs = inl refl })
    by false h r = state_text_lem line t (state_of t) e (is_three line t w) refl r

step_text_lem : (line : List ℕ) (t : Three) (o : Option StepLine) (e : Entry) → IsThree line t → step_of t ≡ o → option_map Step o ≡ Some e → IsEntry AtSteps line e
step_text_lem line t None e i m r = cc
step_text_lem line t (Some s) e i m r =
    let p = make_step_lem (numeral t.first) (by_of t.second) (numeral t.third) s m in
    let a = numeral_text t.first s.from p.0 i.first in
    let b = by_text_lem t.second s.by p.1 i.second in
    let c = numeral_text t.third s.to p.2 i.third in
    at_entry AtSteps line (Step s) e (cc)
    (record {
      text = cc (i.text, a.0, b.0, c.0);
      legible = (a.1, b.1, c.1);
      belongs = (s, refl);
    })

steps_text : (line : List ℕ) (o : Option Three) (e : Entry) → three_words line ≡ o → read_step o ≡ Some e → IsEntry AtSteps line e
steps_text line None e w r = cc
steps_text line (Some t) e w r = step_text_lem line t (step_of t) e (is_three line t w) refl r

-- what is read is what was written
pub read_text : (s : Stage) (line : List ℕ) (e : Entry) → read_entry s line ≡ Some e → IsEntry s line e
read_text AtTitle line e r = title_text line (named (codes "letters") (word_of line)) e refl r
read_text AtCount line e r = count_text line (numeral (word_of line)) e refl r
read_text AtColumns line e r = columns_text line (three_words line) e refl r
read_text AtStates line e r = states_text line (three_words line) e refl r
read_text AtSteps line e r = steps_text line (three_words line) e refl r

-- The other way: what is written is read.
within_true : (low high b : ℕ) → low ≤ b → b ≤ high → within low high b ≡ true
within_true low high b h k = rw (le-leb low b h, le-leb b high k) refl

word_digits : (n : ℕ) → n < 100 → word_of (digits n) ≡ number n
word_digits n h =
    ⊎_elim
    (λ (l : n < 10). ap word_of (digits_one n l) ∙ rw (within_true 48 57 (48 + n) (omega arith) (omega arith)) (ap number (let q : 48 + n - 48 ≡ n = omega arith in q)))
    (λ (l : 10 ≤ n). ap word_of (digits_two n l)
    ∙ rw (within_true 49 57 (48 + n / 10) (omega arith) (omega arith), within_true 48 57 (48 + n % 10) (omega arith) (omega arith))
    (ap number (let q : 10 * (48 + n / 10 - 48) + (48 + n % 10 - 48) ≡ n = omega arith in q)))
    (cases_lt n 10)

plain_one : (s b : ℕ) → Other s b → Plain s (b ∷ [])
plain_one s b h = All-cons (Other s) b [] h (All-nil (Other s))

digits_plain : (s n : ℕ) → s < 35 → Plain s (digits n)
digits_plain s n h =
    ⊎_elim
    (λ (l : n < 10). subst (Plain s) (sym (digits_one n l)) (plain_one s (48 + n) (ne_eqb (48 + n) s (λ e. omega arith))))
    (λ (l : 10 ≤ n). subst (Plain s) (sym (digits_two n l)) (All-cons (Other s) (48 + n / 10) ((48 + n % 10) ∷ []) (ne_eqb (48 + n / 10) s (λ e. omega arith)) (plain_one s (48 + n % 10) (ne_eqb (48 + n % 10) s (λ e. omega arith)))))
    (cases_lt n 10)

flag_plain : (s on : ℕ) (b : Bool) → s < 35 → 35 < on → eqb (flag_text on b) s ≡ false
flag_plain s on true h k = ne_eqb on s (λ e. omega arith)
flag_plain s on false h k = ne_eqb 46 s (λ e. omega arith)

by_plain : (s : ℕ) (b : By) → s < 35 → eqb (by_text b) s ≡ false
by_plain s (Letter i) h = ne_eqb (97 + i) s (λ e. omega arith)
by_plain s Every h = ne_eqb 35 s (λ e. omega arith)

plain_by : (s : ℕ) (t : List ℕ) → later s t ≡ [] → Plain s t
plain_by s [] h = All-nil (Other s)
plain_by s (b ∷ bs) h = by (eqb b s) refl h (plain_by s bs)
  where
    by : (x : Bool) → eqb b s ≡ x → cond x (front s bs ∷ later s bs) (later s bs) ≡ [] → (later s bs ≡ [] → Plain s bs) → Plain s (b ∷ bs)
    by true e h ih = cc
    by false e h ih = All-cons (Other s) b bs e (ih h)

-- no line of a document has a line feed in it
pub entry_plain : (e : Entry) → Plain 10 (entry_text e)
entry_plain Title = plain_by 10 (codes "letters") refl
entry_plain (Count n) = digits_plain 10 n (omega arith)
entry_plain Columns = plain_by 10 (codes "state start mark") refl
entry_plain (State s) =
    All-append (Other 10) (digits s.number) _ (digits_plain 10 s.number (omega arith))
    (All-from_recursion (Other 10) (32 ∷ flag_text 62 s.start ∷ 32 ∷ flag_text 42 s.mark ∷ []) (refl, (flag_plain 10 62 s.start (omega arith) (omega arith), (refl, (flag_plain 10 42 s.mark (omega arith) (omega arith), tt)))))
entry_plain Heading = plain_by 10 (codes "from by to") refl
entry_plain (Step t) =
    All-append (Other 10) (digits t.from) _ (digits_plain 10 t.from (omega arith))
    (All-append (Other 10) (32 ∷ by_text t.by ∷ 32 ∷ []) (digits t.to) (All-from_recursion (Other 10) (32 ∷ by_text t.by ∷ 32 ∷ []) (refl, (by_plain 10 t.by (omega arith), (refl, tt)))) (digits_plain 10 t.to (omega arith)))

three_read : (a b c : List ℕ) → Plain 32 a → Plain 32 b → Plain 32 c → three_words (a ++ 32 ∷ (b ++ 32 ∷ c)) ≡ Some (record { first = word_of a; second = word_of b; third = word_of c })
three_read a b c ha hb hc =
    ap three_of
    (pieces_cut 32 a (b ++ 32 ∷ c) ha ∙ ap (λ x. a ∷ x) (pieces_cut 32 b c hb ∙ ap (λ x. b ∷ x) (pieces_plain 32 c hc)))

flag_read : (b : Bool) → (flag 62 (word_of (flag_text 62 b ∷ [])) ≡ Some b) × (flag 42 (word_of (flag_text 42 b ∷ [])) ≡ Some b)
flag_read true = (refl, refl)
flag_read false = (refl, refl)

by_read : (b : By) → LegibleBy b → by_of (word_of (by_text b ∷ [])) ≡ Some b
by_read (Letter i) h =
    rw (lt-leb (97 + i) 57 (omega arith), le-leb 48 (97 + i) (omega arith), within_true 97 122 (97 + i) (omega arith) (omega arith))
    (ap (λ x. Some (Letter x)) (let q : 97 + i - 97 ≡ i = omega arith in q))
by_read Every h = refl

pub count_read : (n : ℕ) → n < 100 → read_entry AtCount (digits n) ≡ Some (Count n)
count_read n h = ap (λ w. option_map Count (numeral w)) (word_digits n h)

pub state_read : (s : StateLine) → s.number < 100 → read_entry AtStates (state_text s) ≡ Some (State s)
state_read s h =
    ap read_state
    (three_read (digits s.number) (flag_text 62 s.start ∷ []) (flag_text 42 s.mark ∷ []) (digits_plain 32 s.number (omega arith)) (plain_one 32 (flag_text 62 s.start) (flag_plain 32 62 s.start (omega arith) (omega arith))) (plain_one 32 (flag_text 42 s.mark) (flag_plain 32 42 s.mark (omega arith) (omega arith)))
    ∙ ap (λ w. Some (record { first = w; second = word_of (flag_text 62 s.start ∷ []); third = word_of (flag_text 42 s.mark ∷ []) })) (word_digits s.number h))
    ∙ ap (λ o. option_map State (make_state (Some s.number) o (flag 42 (word_of (flag_text 42 s.mark ∷ []))))) (flag_read s.start).0
    ∙ ap (λ o. option_map State (make_state (Some s.number) (Some s.start) o)) (flag_read s.mark).1

pub step_read : (t : StepLine) → Legible (Step t) → read_entry AtSteps (step_text t) ≡ Some (Step t)
step_read t h =
    ap read_step
    (three_read (digits t.from) (by_text t.by ∷ []) (digits t.to) (digits_plain 32 t.from (omega arith)) (plain_one 32 (by_text t.by) (by_plain 32 t.by (omega arith))) (digits_plain 32 t.to (omega arith)))
    ∙ ap (λ w. option_map Step (make_step (numeral w) (by_of (word_of (by_text t.by ∷ []))) (numeral (word_of (digits t.to))))) (word_digits t.from h.0)
    ∙ ap (λ w. option_map Step (make_step (Some t.from) (by_of (word_of (by_text t.by ∷ []))) (numeral w))) (word_digits t.to h.2)
    ∙ ap (λ o. option_map Step (make_step (Some t.from) o (Some t.to))) (by_read t.by h.1)
