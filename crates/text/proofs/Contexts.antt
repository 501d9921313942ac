-- What was read up to a context, and that it can be gone on with.
use Rattle.std.proofs.Common.{◌≡◌, ℕ, ◌<◌, ◌≤◌, true, ◌&&◌, eqb, ltb, leb, List, [], ◌∷◌, ◌++◌, All, map, length, get_or, sym, refl, ap, ◌∙◌, subst, ⊎_elim, arith}
use Rattle.std.proofs.lemmas.List.{append_assoc, map_push, length_push, get_or_append_left, get_or_push}
use Rattle.std.proofs.lemmas.List.Elements.{All-nil, All-push}
use Rattle.std.proofs.lemmas.Bool.{and_parts, eqb-true, leb-true, ltb-true, cases_lt}
use Rattle.text.proofs.Wordings.{Belongs}
use Rattle.text.specs.Documents.{Document, entries, no_state, ByFits, StepFits, InRange}
use Rattle.text.specs.Reading.{fits, after, fits_by}
use Rattle.text.specs.declared.entries.By.{By}
use Rattle.text.specs.declared.entries.By.TheVariants.{Letter, Every}
use Rattle.text.specs.declared.entries.Entry.{Entry}
use Rattle.text.specs.declared.entries.Entry.TheVariants.{Title, Count, Columns, State, Heading, Step}
use Rattle.text.specs.declared.entries.Stage.{Stage}
use Rattle.text.specs.declared.entries.Stage.TheVariants.{AtTitle, AtCount, AtColumns, AtStates, AtSteps}
use Rattle.text.specs.declared.entries.StateLine.{StateLine}
use Rattle.text.specs.declared.entries.StepLine.{StepLine}

-- the entries that led to a stage
abbrev pub before : Stage → Document → List Entry
before AtTitle d = []
before AtCount d = Title ∷ []
before AtColumns d = Title ∷ Count d.letters ∷ []
before AtStates d = Title ∷ Count d.letters ∷ Columns ∷ map State d.states
before AtSteps d = entries d

-- nothing is there that was not read
abbrev pub Shaped : Stage → Document → Type 0
Shaped AtTitle d = (d.letters ≡ 0) × (d.states ≡ []) × (d.steps ≡ [])
Shaped AtCount d = (d.letters ≡ 0) × (d.states ≡ []) × (d.steps ≡ [])
Shaped AtColumns d = (d.states ≡ []) × (d.steps ≡ [])
Shaped AtStates d = d.steps ≡ []
Shaped AtSteps d = Unit {0}

pub record Lettered (d : Document) : Type 0 where
  pub some : 1 ≤ d.letters
  pub few : d.letters ≤ 16

-- at most 32 states, told in order
pub record Ordered (ss : List StateLine) : Type 0 where
  pub few : length ss ≤ 32
  pub in_turn : (q : ℕ) → q < length ss → (get_or ss q no_state).number ≡ q

-- what was read is in range
abbrev pub Ranged : Stage → Document → Type 0
Ranged AtTitle d = Unit {0}
Ranged AtCount d = Unit {0}
Ranged AtColumns d = Lettered d
Ranged AtStates d = Lettered d × Ordered d.states
Ranged AtSteps d = InRange d

-- one entry more stands behind what was read
pub record Led (s : Stage) (d : Document) (e : Entry) : Type 0 where
  pub shaped : Shaped (after d e).stage (after d e).sofar
  pub before_is : before (after d e).stage (after d e).sofar ≡ before s d ++ e ∷ []

led_heading : (d : Document) → Shaped AtStates d → Led AtStates d Heading
led_heading d h =
    record {
      shaped = tt;
      before_is = ap (λ x. Title ∷ Count d.letters ∷ Columns ∷ (map State d.states ++ Heading ∷ map Step x)) h;
    }

led_state : (d : Document) (s : StateLine) → Shaped AtStates d → Led AtStates d (State s)
led_state d s h =
    record { shaped = h; before_is = ap (λ x. Title ∷ Count d.letters ∷ Columns ∷ x) (map_push State d.states s) }

led_step : (d : Document) (t : StepLine) → Led AtSteps d (Step t)
led_step d t =
    record {
      shaped = tt;
      before_is =
          ap (λ x. Title ∷ Count d.letters ∷ Columns ∷ x)
          (ap (λ x. map State d.states ++ Heading ∷ x) (map_push Step d.steps t)
          ∙ sym (append_assoc (map State d.states) (Heading ∷ map Step d.steps) (Step t ∷ [])));
    }

pub led : (s : Stage) (d : Document) (e : Entry) → Belongs s e → Shaped s d → Led s d e
led AtTitle d e b h = subst (Led AtTitle d) (sym b) (record { shaped = h; before_is = refl })
led AtCount d e b h =
    subst (Led AtCount d) (sym b.1) (record { shaped = (h.1, h.2); before_is = refl })
led AtColumns d e b h =
    subst (Led AtColumns d) (sym b)
    (record { shaped = h.1; before_is = ap (λ x. Title ∷ Count d.letters ∷ Columns ∷ map State x) h.0 })
led AtStates d e b h =
    ⊎_elim (λ (x : e ≡ Heading). subst (Led AtStates d) (sym x) (led_heading d h))
    (λ (x : (s : StateLine) × (e ≡ State s)). subst (Led AtStates d) (sym x.1) (led_state d x.0 h)) b
led AtSteps d e b h = subst (Led AtSteps d) (sym b.1) (led_step d b.0)

-- what comes behind a fitting entry is in range
abbrev RangedAfter : Document → Entry → Type 0
RangedAfter d e = Ranged (after d e).stage (after d e).sofar

count_ranged : (d : Document) (n : ℕ) → fits d (Count n) ≡ true → RangedAfter d (Count n)
count_ranged d n f =
    let p = and_parts (leb 1 n) (leb n 16) f in
    record { some = leb-true 1 n p.0; few = leb-true n 16 p.1 }

columns_ranged : (d : Document) → Shaped AtColumns d → Lettered d → RangedAfter d Columns
columns_ranged d h r =
    let e : length d.states ≡ 0 = ap length h.0 in
    (r, record { few = omega arith; in_turn = λ q l. absurd (omega arith) })

state_ranged : (d : Document) (s : StateLine) → Ranged AtStates d → fits d (State s) ≡ true → RangedAfter d (State s)
state_ranged d s r f =
    let p = and_parts (eqb s.number (length d.states)) (ltb (length d.states) 32) f in
    let n : s.number ≡ length d.states = eqb-true s.number (length d.states) p.0 in
    let l : length d.states < 32 = ltb-true (length d.states) 32 p.1 in (
      record { some = r.0.some; few = r.0.few },
      record {
        few = omega (arith, length_push d.states s);
        in_turn =
            λ q h. ⊎_elim
            (λ (k : q < length d.states). ap (λ x. x.number) (get_or_append_left d.states (s ∷ []) no_state q k) ∙ r.1.in_turn q k)
            (λ (k : length d.states ≤ q). let e : length d.states ≡ q = omega (arith, length_push d.states s) in
            ap (λ x. x.number) (get_or_push d.states s no_state q e) ∙ n ∙ e)
            (cases_lt q (length d.states));
      },
    )

heading_ranged : (d : Document) → Shaped AtStates d → Ranged AtStates d → fits d Heading ≡ true → RangedAfter d Heading
heading_ranged d h r f =
    record {
      size =
          record {
            some_states = leb-true 1 (length d.states) f;
            few_states = r.1.few;
            some_letters = r.0.some;
            few_letters = r.0.few;
          };
      in_turn = r.1.in_turn;
      steps_fit = subst (All (StepFits d.letters (length d.states))) (sym h) (All-nil (StepFits d.letters (length d.states)));
    }

by_fits : (k : ℕ) (b : By) → fits_by k b ≡ true → ByFits k b
by_fits k (Letter i) e = ltb-true i k e
by_fits k Every e = tt

step_ranged : (d : Document) (t : StepLine) → InRange d → fits d (Step t) ≡ true → RangedAfter d (Step t)
step_ranged d t r f =
    let p = and_parts (ltb t.from (length d.states)) (fits_by d.letters t.by && ltb t.to (length d.states)) f in
    let q = and_parts (fits_by d.letters t.by) (ltb t.to (length d.states)) p.1 in
    record {
      size = r.size;
      in_turn = r.in_turn;
      steps_fit =
          All-push (StepFits d.letters (length d.states)) d.steps t r.steps_fit
          (ltb-true t.from (length d.states) p.0, by_fits d.letters t.by q.0, ltb-true t.to (length d.states) q.1);
    }

pub ranged : (s : Stage) (d : Document) (e : Entry) → Belongs s e → Shaped s d → Ranged s d → fits d e ≡ true → RangedAfter d e
ranged AtTitle d e b h r f = subst (RangedAfter d) (sym b) tt
ranged AtCount d e b h r f =
    subst (RangedAfter d) (sym b.1) (count_ranged d b.0 (subst (λ x. fits d x ≡ true) b.1 f))
ranged AtColumns d e b h r f = subst (RangedAfter d) (sym b) (columns_ranged d h r)
ranged AtStates d e b h r f =
    ⊎_elim
    (λ (x : e ≡ Heading). subst (RangedAfter d) (sym x) (heading_ranged d h r (subst (λ y. fits d y ≡ true) x f)))
    (λ (x : (s : StateLine) × (e ≡ State s)). subst (RangedAfter d) (sym x.1) (state_ranged d x.0 r (subst (λ y. fits d y ≡ true) x.1 f)))
    b
ranged AtSteps d e b h r f =
    subst (RangedAfter d) (sym b.1) (step_ranged d b.0 r (subst (λ x. fits d x ≡ true) b.1 f))
