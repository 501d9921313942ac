-- The steps read so far.
use Rattle.std.proofs.Common.{◌≡◌, ℕ, ◌+◌, Bool, true, false, cond, ◌||◌, List, [], ◌∷◌, ◌++◌, length, Some, None, Option, sym, refl, ap, ◌∙◌}
use Rattle.std.specs.Option.{option_map}
use Rattle.text.specs.Documents.{Document, tells_step, some_tells}
use Rattle.text.specs.Reading.{Context, go, range, Verdict, fine, at, fits, after, taken, onward, judge, Numbers}
use Rattle.text.specs.Rows.{Fits, tells}
use Rattle.text.specs.Words.{Three, read_step, step_of, three_words}
use Rattle.text.specs.declared.entries.Entry.{Entry}
use Rattle.text.specs.declared.entries.Entry.TheVariants.{Title, Count, Columns, State, Heading, Step}
use Rattle.text.specs.declared.entries.Stage.TheVariants.{AtSteps}
use Rattle.text.specs.declared.entries.StepLine.{StepLine}
use Rattle.text.specs.declared.loading.Loaded.{Loaded}

or_last : (x y z : Bool) → (x || (y || z)) ≡ (y || (x || z))
or_last true true z = refl
or_last true false z = refl
or_last false y z = refl

pub tells_push : (k : ℕ) (ts : List StepLine) (t : StepLine) (p i q : ℕ) → some_tells k (ts ++ t ∷ []) p i q ≡ (tells_step k t p i q || some_tells k ts p i q)
tells_push k [] t p i q = refl
tells_push k (s ∷ ts) t p i q =
    ap (λ x. tells_step k s p i q || x) (tells_push k ts t p i q)
    ∙ or_last (tells_step k s p i q) (tells_step k t p i q) (some_tells k ts p i q)

-- the steps told once the entry is read
pub told_after : (n : ℕ) (k : Document) (e : Entry) (p i q : ℕ) → some_tells n (after k e).sofar.steps p i q ≡ (tells n e p i q || some_tells n k.steps p i q)
told_after n k Title p i q = refl
told_after n k (Count m) p i q = refl
told_after n k Columns p i q = refl
told_after n k (State s) p i q = refl
told_after n k Heading p i q = refl
told_after n k (Step t) p i q = tells_push n k.steps t p i q

-- two documents of the same letters and states
abbrev pub Alike : Document → Document → Type 0
Alike all d = (all.letters ≡ d.letters) × (all.states ≡ d.states)

module _ (n : ℕ) (d all : Document) (next : Context → Verdict) (ih : (t : StepLine) → next (after d (Step t)) ≡ fine all → Alike all d) where
  fit_by : (b : Bool) (t : StepLine) → onward n next (cond b (go (after d (Step t))) range) ≡ fine all → Alike all d
  fit_by true t e = ih t e
  fit_by false t e = cc

  line_by : (o : Option StepLine) → onward n next (taken d (option_map Step o)) ≡ fine all → Alike all d
  line_by None e = cc
  line_by (Some t) e = fit_by (fits d (Step t)) t e

  words_by : (o : Option Three) → onward n next (taken d (read_step o)) ≡ fine all → Alike all d
  words_by None e = cc
  words_by (Some t) e = line_by (step_of t) e

-- what a text ends with has the letters and states that stood before the steps
pub alike : (ls : List (List ℕ)) (n : ℕ) (d all : Document) → judge (at AtSteps d) n ls ≡ fine all → Alike all d
alike [] n d all e = cc
alike ([] ∷ []) n d all e = let z : d ≡ all = cc in (ap (λ x. x.letters) (sym z), ap (λ x. x.states) (sym z))
alike ((b ∷ bs) ∷ []) n d all e = cc
alike (l ∷ (m ∷ ls)) n d all e =
    words_by n d all (λ k'. judge k' (n + 1) (m ∷ ls)) (λ t x. alike (m ∷ ls) (n + 1) (after d (Step t)).sofar all x)
    (three_words l) e

-- so an entry that fits what was read fits the whole text's numbers
pub fits_whole : (l : Loaded) (d k : Document) (x : Entry) (n : ℕ) (ls : List (List ℕ)) → Numbers l d → fits k x ≡ true → judge (after k x) n ls ≡ fine d → Fits l x
fits_whole l d k Title n ls h f e = tt
fits_whole l d k (Count m) n ls h f e = tt
fits_whole l d k Columns n ls h f e = tt
fits_whole l d k (State s) n ls h f e = tt
fits_whole l d k Heading n ls h f e = tt
fits_whole l d k (Step t) n ls h f e =
    let a = alike ls n (after k (Step t)).sofar d e in
    rw (h.letters ∙ a.0, h.states ∙ ap length a.1) f
