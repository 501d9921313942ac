-- The verdict says what the text tells, or where and how it goes wrong.
use Rattle.std.proofs.Common.{◌≡◌, ℕ, suc, ◌+◌, ◌<◌, Bool, true, false, cond, List, [], ◌∷◌, ◌++◌, All, map, length, get_or, Some, None, Option, sym, refl, ap, ◌∙◌, subst, inl, inr, arith}
use Rattle.std.proofs.lemmas.List.Elements.{All-nil, All-cons, All-append, All-push, All-map, All-from_recursion}
use Rattle.std.proofs.lemmas.List.{append-nil, append_assoc, map-append, map_push, length_push}
use Rattle.std.specs.Option.{option_and_then}
use Rattle.std.specs.List.{flat_map, join_with_byte}
use Rattle.text.proofs.Contexts.{before, Shaped, Ranged, Lettered, Ordered, led, ranged}
use Rattle.text.proofs.Cuts.{Plain}
use Rattle.text.proofs.Glue.{glue_pieces, glue_ended, pieces_ended}
use Rattle.text.proofs.Readable.{read_text, entry_plain}
use Rattle.text.proofs.Runs.{step_by, run, run_from, run_one, complete_loose, complete_strict, legible_range, judge_run}
use Rattle.text.specs.Documents.{Document, entries, entry_text, lines_of, written, ended, Legible, no_state, StepFits, InRange}
use Rattle.text.specs.Pieces.{front, later, pieces}
use Rattle.text.specs.Reading.{Context, go, range, Verdict, fine, wrong_form, out_of_range, at, first, fits, after, taken, finish, onward, judge, verdict}
use Rattle.text.specs.Refused.{Begin, Writable, Reaches, WrongForm, OutOfRange}
use Rattle.text.specs.Words.{read_entry}
use Rattle.text.specs.declared.entries.Entry.{Entry}
use Rattle.text.specs.declared.entries.Entry.TheVariants.{Title, Count, Columns, State, Heading, Step}
use Rattle.text.specs.declared.entries.Stage.{Stage}
use Rattle.text.specs.declared.entries.Stage.TheVariants.{AtTitle, AtCount, AtColumns, AtStates, AtSteps}
use Rattle.text.specs.declared.entries.StateLine.{StateLine}

-- the lines led to the stage and document, and nothing was wrong
pub record Reached (done : List (List ℕ)) (s : Stage) (d : Document) : Type 0 where
  pub strict : run false first done ≡ Some (at s d)
  pub loose : run true first done ≡ Some (at s d)
  pub shaped : Shaped s d
  pub ranged_is : Ranged s d
  pub text : done ≡ map entry_text (before s d)
  pub legible : All Legible (before s d)

nothing : Reached [] AtTitle first.sofar
nothing =
    record { strict = refl; loose = refl; shaped = (refl, refl, refl); ranged_is = tt; text = refl; legible = All-nil Legible }

-- The smallest document, for k letters.
abbrev smallest : ℕ → Document
smallest k = record { letters = k; states = no_state ∷ []; steps = [] }

smallest_ranged : (d : Document) → Lettered d → InRange (smallest d.letters)
smallest_ranged d l =
    record {
      size = omega arith;
      in_turn = λ q h. let e : q ≡ 0 = omega arith in subst (λ x. (get_or (no_state ∷ []) x no_state).number ≡ x) (sym e) refl;
      steps_fit = All-nil (StepFits d.letters 1);
    }

begin_states : (d : Document) (ss : List StateLine) → d.states ≡ ss → d.steps ≡ [] → Lettered d → Ordered d.states → Begin InRange (map entry_text (Title ∷ Count d.letters ∷ Columns ∷ map State ss))
begin_states d [] e f l s =
    (smallest d.letters, map entry_text (State no_state ∷ Heading ∷ []), smallest_ranged d l, refl)
begin_states d (x ∷ ss) e f l s =
    let n : length d.states ≡ suc (length ss) = ap length e in
    (d, entry_text Heading ∷ [], record { size = omega arith; in_turn = s.in_turn; steps_fit = subst (All (StepFits d.letters (length d.states))) (sym f) (All-nil (StepFits d.letters (length d.states))) }, ap (λ y. map entry_text (Title ∷ Count d.letters ∷ Columns ∷ (map State y ++ Heading ∷ map Step d.steps))) e ∙ ap (λ y. map entry_text (Title ∷ Count d.letters ∷ Columns ∷ (map State (x ∷ ss) ++ Heading ∷ map Step y))) f ∙ ap (λ y. entry_text Title ∷ entry_text (Count d.letters) ∷ entry_text Columns ∷ y) (map-append entry_text (map State (x ∷ ss)) (Heading ∷ [])))

lettered_one : Lettered (smallest 1)
lettered_one = record { some = omega arith; few = omega arith }

-- what was read can be gone on with, in range
begin_range : (s : Stage) (d : Document) → Shaped s d → Ranged s d → Begin InRange (map entry_text (before s d))
begin_range AtTitle d h r = (smallest 1, lines_of (smallest 1), smallest_ranged (smallest 1) lettered_one, refl)
begin_range AtCount d h r =
    (smallest 1, map entry_text (Count 1 ∷ Columns ∷ State no_state ∷ Heading ∷ []), smallest_ranged (smallest 1) lettered_one, refl)
begin_range AtColumns d h r =
    (smallest d.letters, map entry_text (Columns ∷ State no_state ∷ Heading ∷ []), smallest_ranged d r, refl)
begin_range AtStates d h r = begin_states d d.states refl h r.0 r.1
begin_range AtSteps d h r = (d, [], r, sym (append-nil (lines_of d)))

abbrev bare : ℕ → Document
bare k = record { letters = k; states = []; steps = [] }

bare_legible : (k : ℕ) → k < 100 → Writable (bare k)
bare_legible k h = All-from_recursion Legible (entries (bare k)) (tt, (h, (tt, (tt, tt))))

-- or, in range or not, as a document that can be written
begin_writable : (s : Stage) (d : Document) → Shaped s d → All Legible (before s d) → Begin Writable (map entry_text (before s d))
begin_writable AtTitle d h l = (bare 1, lines_of (bare 1), bare_legible 1 (omega arith), refl)
begin_writable AtCount d h l =
    (bare 1, map entry_text (Count 1 ∷ Columns ∷ Heading ∷ []), bare_legible 1 (omega arith), refl)
begin_writable AtColumns d h l =
    (bare d.letters, map entry_text (Columns ∷ Heading ∷ []), bare_legible d.letters (l 1 Title (omega arith)), refl)
begin_writable AtStates d h l =
    (d, entry_text Heading ∷ [], All-append Legible (before AtStates d) (Heading ∷ map Step d.steps) l (All-cons Legible Heading (map Step d.steps) tt (subst (λ y. All Legible (map Step y)) (sym h) (All-nil Legible))), ap (λ y. map entry_text (Title ∷ Count d.letters ∷ Columns ∷ (map State d.states ++ Heading ∷ map Step y))) h ∙ ap (λ y. entry_text Title ∷ entry_text (Count d.letters) ∷ entry_text Columns ∷ y) (map-append entry_text (map State d.states) (Heading ∷ [])))
begin_writable AtSteps d h l = (d, [], l, sym (append-nil (lines_of d)))

-- One more line that was read as e.
module _ (done : List (List ℕ)) (s : Stage) (d : Document) (line : List ℕ) (e : Entry) (read : read_entry s line ≡ Some e) (r : Reached done s d) where
  text_on : done ++ line ∷ [] ≡ map entry_text (before (after d e).stage (after d e).sofar)
  text_on =
      let i = read_text s line e read in
      ap (λ x. x ++ line ∷ []) r.text ∙ ap (λ x. map entry_text (before s d) ++ x ∷ []) i.text
      ∙ sym (map_push entry_text (before s d) e)
      ∙ ap (map entry_text) (sym (led s d e i.belongs r.shaped).before_is)

  legible_on : All Legible (before (after d e).stage (after d e).sofar)
  legible_on =
      let i = read_text s line e read in
      subst (All Legible) (sym (led s d e i.belongs r.shaped).before_is)
      (All-push Legible (before s d) e r.legible i.legible)

  reach_on : fits d e ≡ true → Reached (done ++ line ∷ []) (after d e).stage (after d e).sofar
  reach_on f =
      let i = read_text s line e read in
      record {
        strict = run_from false done (line ∷ []) first (at s d) r.strict ∙ run_one false s d line e [] read f;
        loose = run_from true done (line ∷ []) first (at s d) r.loose ∙ run_one true s d line e [] read refl;
        shaped = (led s d e i.belongs r.shaped).shaped;
        ranged_is = ranged s d e i.belongs r.shaped r.ranged_is f;
        text = text_on;
        legible = legible_on;
      }

  formed : Begin Writable (done ++ line ∷ [])
  formed =
      let i = read_text s line e read in
      subst (Begin Writable) (sym text_on)
      (begin_writable (after d e).stage (after d e).sofar (led s d e i.belongs r.shaped).shaped legible_on)

-- no document goes on with a line that the run stops at
stopped : (b : Bool) (done : List (List ℕ)) (s : Stage) (d : Document) (line : List ℕ) (P : Document → Type 0) → ((x : Document) → P x → run b first (lines_of x) ≡ Some (at AtSteps x)) → run b first done ≡ Some (at s d) → step_by b d (read_entry s line) ≡ None → Begin P (done ++ line ∷ []) → ⊥
stopped b done s d line P through led stop begun =
    let x = begun.0 in
    let rest = begun.1 in
    let e : run b first (done ++ (line ∷ rest)) ≡ Some (at AtSteps x) =
    ap (run b first) (sym (begun.3 ∙ append_assoc done (line ∷ []) rest)) ∙ through x begun.2 in
    cc
    (sym (ap (option_and_then (λ k. run b k rest)) stop) ∙ sym (run_from b done (line ∷ rest) first (at s d) led) ∙ e)

abbrev pub Outcome : List ℕ → Verdict → Type 0
Outcome text (fine d) = InRange d × (written d ≡ text)
Outcome text (wrong_form n) = WrongForm text n
Outcome text (out_of_range n) = OutOfRange text n

module _ (text : List ℕ) (done : List (List ℕ)) (s : Stage) (d : Document) (line : List ℕ) (rest : List (List ℕ)) (split : pieces 10 text ≡ done ++ line ∷ rest) (r : Reached done s d) where
  reaches : Reaches text (length done + 1)
  reaches =
      record {
        before = done;
        line = line;
        after = rest;
        split = split;
        place = refl;
        begun = subst (Begin InRange) (sym r.text) (begin_range s d r.shaped r.ranged_is);
      }

  no_form : read_entry s line ≡ None → WrongForm text (length done + 1)
  unfolding reaches
  no_form e =
      record {
        reaches = reaches;
        wrong = inr (stopped true done s d line Writable (λ x w. complete_loose x w) r.loose (ap (step_by true d) e));
      }

  no_range : (e : Entry) → read_entry s line ≡ Some e → fits d e ≡ false → (rest ≡ [] → ⊥) → OutOfRange text (length done + 1)
  unfolding reaches
  no_range e read f more =
      record {
        reaches = reaches;
        ended = more;
        formed = formed done s d line e read r;
        wrong =
            stopped false done s d line InRange (λ x i. complete_strict x (legible_range x i) i) r.strict
            (ap (step_by false d) read ∙ ap (λ b. cond b (Some (after d e)) None) f);
      }

finished : (text : List ℕ) (done : List (List ℕ)) (s : Stage) (d : Document) (line : List ℕ) → pieces 10 text ≡ done ++ line ∷ [] → Reached done s d → Outcome text (finish s d (length done + 1) line)
unfolding reaches
finished text done AtTitle d line split r = record { reaches = reaches text done AtTitle d line [] split r; wrong = inl refl }
finished text done AtCount d line split r = record { reaches = reaches text done AtCount d line [] split r; wrong = inl refl }
finished text done AtColumns d line split r = record { reaches = reaches text done AtColumns d line [] split r; wrong = inl refl }
finished text done AtStates d line split r = record { reaches = reaches text done AtStates d line [] split r; wrong = inl refl }
finished text done AtSteps d [] split r =
    (r.ranged_is, sym (ap (flat_map ended) r.text) ∙ sym (glue_ended done) ∙ sym (ap (join_with_byte 10) split) ∙ glue_pieces 10 text)
finished text done AtSteps d (b ∷ line) split r = record { reaches = reaches text done AtSteps d (b ∷ line) [] split r; wrong = inl refl }

abbrev Goes : List ℕ → List (List ℕ) → (Context → Verdict) → Type 0
Goes text done next = (k : Context) → Reached done k.stage k.sofar → Outcome text (next k)

module _ (text : List ℕ) (done : List (List ℕ)) (s : Stage) (d : Document) (line m : List ℕ) (ls : List (List ℕ)) (split : pieces 10 text ≡ done ++ line ∷ (m ∷ ls)) (r : Reached done s d) (next : Context → Verdict) (goes : Goes text (done ++ line ∷ []) next) where
  fit_told : (b : Bool) (e : Entry) → read_entry s line ≡ Some e → fits d e ≡ b → Outcome text (onward (length done + 1) next (cond b (go (after d e)) range))
  fit_told true e read f = goes (after d e) (reach_on done s d line e read r f)
  fit_told false e read f =
      no_range text done s d line (m ∷ ls) split r e read f (λ x. cc)

  line_told : (o : Option Entry) → read_entry s line ≡ o → Outcome text (onward (length done + 1) next (taken d o))
  line_told None read = no_form text done s d line (m ∷ ls) split r read
  line_told (Some e) read = fit_told (fits d e) e read refl

told : (text : List ℕ) (ls done : List (List ℕ)) (k : Context) (line : List ℕ) → pieces 10 text ≡ done ++ line ∷ ls → Reached done k.stage k.sofar → Outcome text (judge k (length done + 1) (line ∷ ls))
told text [] done k line split r = finished text done k.stage k.sofar line split r
told text (m ∷ ls) done k line split r =
    line_told text done k.stage k.sofar line m ls split r (λ k'. judge k' (length done + 1 + 1) (m ∷ ls))
    (λ k' r'. subst (λ n. Outcome text (judge k' (n + 1) (m ∷ ls))) (length_push done line) (told text ls (done ++ line ∷ []) k' m (split ∙ sym (append_assoc done (line ∷ []) (m ∷ ls))) r'))
    (read_entry k.stage line) refl

pub outcome : (text : List ℕ) → Outcome text (verdict text)
unfolding nothing
outcome text = told text (later 10 text) [] first (front 10 text) refl nothing

-- the other way: a document in range is read as itself
pub read_written : (d : Document) → InRange d → verdict (written d) ≡ fine d
read_written d r =
    ap (judge first 1) (pieces_ended (lines_of d) (All-map (Plain 10) entry_text (entries d) (λ i e l. entry_plain (get_or (entries d) i e))))
    ∙ judge_run (lines_of d) first (at AtSteps d) 1 [] [] (complete_strict d (legible_range d r) r)
