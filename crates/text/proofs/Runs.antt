-- A run over lines, strictly or whatever their range; every document runs through.
use Rattle.std.proofs.Common.{◌≡◌, ℕ, suc, ◌+◌, ◌<◌, ◌≤◌, Bool, true, false, cond, ◌&&◌, ◌||◌, eqb, ltb, leb, List, [], ◌∷◌, ◌++◌, All, map, length, get_or, Some, None, Option, sym, refl, ap, ◌∙◌, subst, arith, length-append}
use Rattle.std.proofs.Math.Seq.{take-append_seam, drop-append_seam}
use Rattle.std.specs.Option.{option_and_then}
use Rattle.std.proofs.lemmas.List.{append-nil, append_assoc, map-append, get_or_at}
use Rattle.std.proofs.lemmas.List.Elements.{All-cons, All-head, All-tail, All-take, All-drop, All-append, All-map, All-from_get_or, All-from_recursion}
use Rattle.std.proofs.lemmas.Bool.{and_from, eq-eqb, le-leb, lt-ltb}
use Rattle.text.proofs.Contexts.{Ordered}
use Rattle.text.proofs.Readable.{count_read, state_read, step_read}
use Rattle.text.specs.Documents.{Document, entries, entry_text, lines_of, LegibleBy, Legible, no_state, ByFits, StepFits, InRange}
use Rattle.text.specs.Reading.{Context, go, range, Verdict, at, first, fits, after, taken, rule, onward, judge, fits_by, step_fits}
use Rattle.text.specs.Words.{read_entry}
use Rattle.text.specs.declared.entries.By.{By}
use Rattle.text.specs.declared.entries.By.TheVariants.{Letter, Every}
use Rattle.text.specs.declared.entries.Entry.{Entry}
use Rattle.text.specs.declared.entries.Entry.TheVariants.{Title, Count, Columns, State, Heading, Step}
use Rattle.text.specs.declared.entries.Stage.{Stage}
use Rattle.text.specs.declared.entries.Stage.TheVariants.{AtTitle, AtCount, AtColumns, AtStates, AtSteps}
use Rattle.text.specs.declared.entries.StateLine.{StateLine}
use Rattle.text.specs.declared.entries.StepLine.{StepLine}

abbrev pub step_by : Bool → Document → Option Entry → Option Context
step_by loose d None = None
step_by loose d (Some e) = cond (loose || fits d e) (Some (after d e)) None

abbrev pub run : Bool → Context → List (List ℕ) → Option Context
run loose k [] = Some k
run loose k (l ∷ ls) = option_and_then (λ k'. run loose k' ls) (step_by loose k.sofar (read_entry k.stage l))

then_assoc : (o : Option Context) (f g : Context → Option Context) → option_and_then g (option_and_then f o) ≡ option_and_then (λ k. option_and_then g (f k)) o
then_assoc None f g = refl
then_assoc (Some k) f g = refl

then_same : (o : Option Context) (f g : Context → Option Context) → ((k : Context) → f k ≡ g k) → option_and_then f o ≡ option_and_then g o
then_same None f g h = refl
then_same (Some k) f g h = h k

pub run_append : (b : Bool) (xs ys : List (List ℕ)) (k : Context) → run b k (xs ++ ys) ≡ option_and_then (λ k'. run b k' ys) (run b k xs)
run_append b [] ys k = refl
run_append b (l ∷ xs) ys k =
    then_same (step_by b k.sofar (read_entry k.stage l)) _ _ (λ k'. run_append b xs ys k')
    ∙ sym (then_assoc (step_by b k.sofar (read_entry k.stage l)) (λ k'. run b k' xs) (λ k'. run b k' ys))

-- behind the lines that led to k
pub run_from : (b : Bool) (xs ys : List (List ℕ)) (j k : Context) → run b j xs ≡ Some k → run b j (xs ++ ys) ≡ run b k ys
run_from b xs ys j k e = run_append b xs ys j ∙ ap (option_and_then (λ k'. run b k' ys)) e

-- one line
pub run_one : (b : Bool) (s : Stage) (d : Document) (l : List ℕ) (e : Entry) (ls : List (List ℕ)) → read_entry s l ≡ Some e → (b || fits d e) ≡ true → run b (at s d) (l ∷ ls) ≡ run b (after d e) ls
run_one b s d l e ls read pass =
    ap (λ o. option_and_then (λ k. run b k ls) (step_by b d o)) read
    ∙ ap (λ x. option_and_then (λ k. run b k ls) (cond x (Some (after d e)) None)) pass

abbrev doc : ℕ → List StateLine → List StepLine → Document
doc k ss ts = record { letters = k; states = ss; steps = ts }

abbrev StatesPass : Bool → ℕ → List StateLine → List StateLine → Type 0
StatesPass b k old [] = Unit {0}
StatesPass b k old (s ∷ ss) = ((b || fits (doc k old []) (State s)) ≡ true) × StatesPass b k (old ++ s ∷ []) ss

states_run : (b : Bool) (k : ℕ) (todo old : List StateLine) (ls : List (List ℕ)) → All Legible (map State todo) → StatesPass b k old todo → run b (at AtStates (doc k old [])) (map entry_text (map State todo) ++ ls) ≡ run b (at AtStates (doc k (old ++ todo) [])) ls
states_run b k [] old ls h p = ap (λ x. run b (at AtStates (doc k x [])) ls) (sym (append-nil old))
states_run b k (s ∷ ss) old ls h p =
    run_one b AtStates (doc k old []) (entry_text (State s)) (State s) (map entry_text (map State ss) ++ ls) (state_read s (All-head Legible (State s) (map State ss) h)) p.0
    ∙ states_run b k ss (old ++ s ∷ []) ls (All-tail Legible (State s) (map State ss) h) p.1
    ∙ ap (λ x. run b (at AtStates (doc k x [])) ls) (append_assoc old (s ∷ []) ss)

steps_run : (b : Bool) (k : ℕ) (ss : List StateLine) (todo old : List StepLine) → All Legible (map Step todo) → All (λ t. (b || step_fits k (length ss) t) ≡ true) todo → run b (at AtSteps (doc k ss old)) (map entry_text (map Step todo)) ≡ Some (at AtSteps (doc k ss (old ++ todo)))
steps_run b k ss [] old h p = ap (λ x. Some (at AtSteps (doc k ss x))) (sym (append-nil old))
steps_run b k ss (t ∷ ts) old h p =
    let pass : StepLine → Type 0 = λ t. (b || step_fits k (length ss) t) ≡ true in
    run_one b AtSteps (doc k ss old) (entry_text (Step t)) (Step t) (map entry_text (map Step ts)) (step_read t (All-head Legible (Step t) (map Step ts) h)) (All-head pass t ts p)
    ∙ steps_run b k ss ts (old ++ t ∷ []) (All-tail Legible (Step t) (map Step ts) h) (All-tail pass t ts p)
    ∙ ap (λ x. Some (at AtSteps (doc k ss x))) (append_assoc old (t ∷ []) ts)

-- every entry of the document is taken in its turn
record Passes (b : Bool) (d : Document) : Type 0 where
  count : (b || fits first.sofar (Count d.letters)) ≡ true
  title : (b || true) ≡ true
  states : StatesPass b d.letters [] d.states
  heading : (b || leb 1 (length d.states)) ≡ true
  steps : All (λ t. (b || step_fits d.letters (length d.states) t) ≡ true) d.steps

all_parts : (xs ys : List Entry) → All Legible (xs ++ ys) → All Legible xs × All Legible ys
all_parts xs ys h =
    (subst (All Legible) (take-append_seam xs ys) (All-take Legible (length xs) (xs ++ ys) h), subst (All Legible) (drop-append_seam xs ys) (All-drop Legible (length xs) (xs ++ ys) h))

complete : (b : Bool) (d : Document) → All Legible (entries d) → Passes b d → run b first (lines_of d) ≡ Some (at AtSteps d)
complete b d h p =
    let k = d.letters in
    let l = all_parts (map State d.states) (Heading ∷ map Step d.steps) (λ i e x. h (suc (suc (suc i))) e (omega arith)) in
    let steps = map entry_text (map Step d.steps) in
    let body = map entry_text (map State d.states ++ Heading ∷ map Step d.steps) in
    run_one b AtTitle first.sofar (entry_text Title) Title (entry_text (Count k) ∷ entry_text Columns ∷ body) refl p.title
    ∙ run_one b AtCount first.sofar (entry_text (Count k)) (Count k) (entry_text Columns ∷ body) (count_read k (h 1 Title (omega arith))) p.count
    ∙ run_one b AtColumns (doc k [] []) (entry_text Columns) Columns body refl p.title
    ∙ ap (run b (at AtStates (doc k [] []))) (map-append entry_text (map State d.states) (Heading ∷ map Step d.steps))
    ∙ states_run b k d.states [] (entry_text Heading ∷ steps) l.0 p.states
    ∙ run_one b AtStates (doc k d.states []) (entry_text Heading) Heading steps refl p.heading
    ∙ steps_run b k d.states d.steps [] (All-tail Legible Heading (map Step d.steps) l.1) p.steps

loose_states : (k : ℕ) (old todo : List StateLine) → StatesPass true k old todo
loose_states k old [] = tt
loose_states k old (s ∷ ss) = (refl, loose_states k (old ++ s ∷ []) ss)

-- a document that can be written runs through, whatever its range
pub complete_loose : (d : Document) → All Legible (entries d) → run true first (lines_of d) ≡ Some (at AtSteps d)
complete_loose d h =
    complete true d h
    (record {
      count = refl;
      title = refl;
      states = loose_states d.letters [] d.states;
      heading = refl;
      steps = λ i t l. refl;
    })

-- the next of the states told in order
next_state : (all : List StateLine) → Ordered all → (old : List StateLine) (s : StateLine) (ss : List StateLine) → old ++ s ∷ ss ≡ all → (s.number ≡ length old) × (length old < 32)
next_state all o old s ss e =
    let l : length all ≡ length old + suc (length ss) = sym (ap length e) ∙ length-append old (s ∷ ss) in
    let few = o.few in
    let here : get_or all (length old) no_state ≡ s =
    ap (λ x. get_or x (length old) no_state) (sym e) ∙ get_or_at old s ss no_state (length old) refl in
    (sym (ap (λ x. x.number) here) ∙ o.in_turn (length old) (omega arith), omega arith)

strict_states : (k : ℕ) (all : List StateLine) → Ordered all → (todo old : List StateLine) → old ++ todo ≡ all → StatesPass false k old todo
strict_states k all o [] old e = tt
strict_states k all o (s ∷ ss) old e =
    let n = next_state all o old s ss e in
    (and_from (eqb s.number (length old)) (ltb (length old) 32) (eq-eqb s.number (length old) n.0) (lt-ltb (length old) 32 n.1), strict_states k all o ss (old ++ s ∷ []) (append_assoc old (s ∷ []) ss ∙ e))

by_passes : (k : ℕ) (b : By) → ByFits k b → fits_by k b ≡ true
by_passes k (Letter i) h = lt-ltb i k h
by_passes k Every h = refl

step_passes : (k n : ℕ) (t : StepLine) → StepFits k n t → (false || step_fits k n t) ≡ true
step_passes k n t h =
    and_from (ltb t.from n) (fits_by k t.by && ltb t.to n) (lt-ltb t.from n h.0) (and_from (fits_by k t.by) (ltb t.to n) (by_passes k t.by h.1) (lt-ltb t.to n h.2))

-- a document in range runs through strictly
pub complete_strict : (d : Document) → All Legible (entries d) → InRange d → run false first (lines_of d) ≡ Some (at AtSteps d)
complete_strict d h r =
    complete false d h
    (record {
      count = and_from (leb 1 d.letters) (leb d.letters 16) (le-leb 1 d.letters r.size.some_letters) (le-leb d.letters 16 r.size.few_letters);
      title = refl;
      states = strict_states d.letters d.states (record { few = r.size.few_states; in_turn = r.in_turn }) d.states [] refl;
      heading = le-leb 1 (length d.states) r.size.some_states;
      steps = λ i t l. step_passes d.letters (length d.states) _ (r.steps_fit i t l);
    })

-- what is in range can be written
legible_by : (k : ℕ) (b : By) → k ≤ 16 → ByFits k b → LegibleBy b
legible_by k (Letter i) h f = omega arith
legible_by k Every h f = tt

legible_step : (k n : ℕ) (t : StepLine) → k ≤ 16 → n ≤ 32 → StepFits k n t → Legible (Step t)
legible_step k n t hk hn h = (omega arith, legible_by k t.by hk h.1, omega arith)

pub legible_range : (d : Document) → InRange d → All Legible (entries d)
legible_range d r =
    let states = All-map Legible State d.states (All-from_get_or (λ s. s.number < 100) d.states no_state (λ q h. omega (arith, r.in_turn q h, r.size.few_states))) in
    let steps = All-map Legible Step d.steps (λ i t l. legible_step d.letters (length d.states) _ r.size.few_letters r.size.few_states (r.steps_fit i t l)) in
    All-append Legible (Title ∷ Count d.letters ∷ Columns ∷ []) (map State d.states ++ Heading ∷ map Step d.steps)
    (All-from_recursion Legible (Title ∷ Count d.letters ∷ Columns ∷ []) (tt, (omega (arith, r.size.few_letters), (tt, tt))))
    (All-append Legible (map State d.states) (Heading ∷ map Step d.steps) states (All-cons Legible Heading (map Step d.steps) tt steps))

-- A strict run is what the verdict goes by.
cons_of : (xs : List (List ℕ)) (l : List ℕ) (ls : List (List ℕ)) → (a : List ℕ) × (b : List (List ℕ)) × (xs ++ l ∷ ls ≡ a ∷ b)
cons_of [] l ls = (l, ls, refl)
cons_of (x ∷ xs) l ls = (x, xs ++ l ∷ ls, refl)

judge_cons : (k : Context) (n : ℕ) (x : List ℕ) (m : List (List ℕ)) → (a : List ℕ) (b : List (List ℕ)) → m ≡ a ∷ b → judge k n (x ∷ m) ≡ onward n (λ k'. judge k' (n + 1) m) (rule k x)
judge_cons k n x m a b e =
    subst (λ y. judge k n (x ∷ y) ≡ onward n (λ k'. judge k' (n + 1) y) (rule k x)) (sym e) refl

module _ (n : ℕ) (d : Document) (next : Context → Verdict) (runs : Context → Option Context) (k' : Context) (v : Verdict) (ih : (k : Context) → runs k ≡ Some k' → next k ≡ v) where
  fit_goes : (b : Bool) (e : Entry) → option_and_then runs (cond b (Some (after d e)) None) ≡ Some k' → onward n next (cond b (go (after d e)) range) ≡ v
  fit_goes true e r = ih (after d e) r
  fit_goes false e r = cc

  line_goes : (o : Option Entry) → option_and_then runs (step_by false d o) ≡ Some k' → onward n next (taken d o) ≡ v
  line_goes None r = cc
  line_goes (Some e) r = fit_goes (fits d e) e r

pub judge_run : (xs : List (List ℕ)) (k k' : Context) (n : ℕ) (l : List ℕ) (ls : List (List ℕ)) → run false k xs ≡ Some k' → judge k n (xs ++ l ∷ ls) ≡ judge k' (length xs + n) (l ∷ ls)
judge_run [] k k' n l ls r =
    let e : k ≡ k' = cc in
    ap (λ x. judge x n (l ∷ ls)) e ∙ ap (λ x. judge k' x (l ∷ ls)) (let z : n ≡ 0 + n = omega arith in z)
judge_run (x ∷ xs) k k' n l ls r =
    let c = cons_of xs l ls in
    judge_cons k n x (xs ++ l ∷ ls) c.0 c.1 c.2
    ∙ line_goes n k.sofar (λ j. judge j (n + 1) (xs ++ l ∷ ls)) (λ j. run false j xs) k' (judge k' (length (x ∷ xs) + n) (l ∷ ls))
    (λ j e. judge_run xs j k' (n + 1) l ls e ∙ ap (λ y. judge k' y (l ∷ ls)) (let z : length xs + (n + 1) ≡ suc (length xs) + n = omega arith in z))
    (read_entry k.stage x) r
