-- A line is read as an entry exactly if it is that entry's text.
use Rattle.std.proofs.Common.{◌≡◌, ℕ, ◌+◌, ◌-◌, ◌*◌, ◌/◌, ◌%◌, ◌<◌, ◌≤◌, Bool, true, false, cond, ◌&&◌, eqb, leb, ◌⊎◌, List, [], ◌∷◌, ◌++◌, Some, None, Option, sym, refl, ap, ◌∙◌, subst, arith}
use Rattle.std.proofs.lemmas.Slice.Eq.{bytes_eq-Decides}
use Rattle.std.proofs.lemmas.Bool.{and_parts, leb-true, eqb-true, lt-ltb, le-ltb}
use Rattle.std.specs.List.{join_with_byte}
use Rattle.text.proofs.Glue.{glue_pieces}
use Rattle.text.specs.Documents.{digits, flag_text, by_text, LegibleBy}
use Rattle.text.specs.Pieces.{pieces}
use Rattle.text.specs.Words.{Word, number, letter, sign, name, within, is_sign, word_of, Three, three_of, three_words, numeral, flag, by_of, named, make_state, make_step}
use Rattle.text.specs.declared.entries.By.{By}
use Rattle.text.specs.declared.entries.By.TheVariants.{Letter, Every}
use Rattle.text.specs.declared.entries.Entry.{Entry}
use Rattle.text.specs.declared.entries.Entry.TheVariants.{Title, Count, Columns, State, Heading, Step}
use Rattle.text.specs.declared.entries.Stage.{Stage}
use Rattle.text.specs.declared.entries.Stage.TheVariants.{AtTitle, AtCount, AtColumns, AtStates, AtSteps}
use Rattle.text.specs.declared.entries.StateLine.{StateLine}
use Rattle.text.specs.declared.entries.StepLine.{StepLine}

abbrev pub word_text : Word → List ℕ
word_text (number n) = digits n
word_text (letter i) = (97 + i) ∷ []
word_text (sign c) = c ∷ []
word_text (name w) = w

abbrev pub WordFits : Word → Type 0
WordFits (number n) = n < 100
WordFits (letter i) = i < 26
WordFits (sign c) = Unit {0}
WordFits (name w) = Unit {0}

-- the word is that of the text w
pub record IsWord (w : List ℕ) (x : Word) : Type 0 where
  pub text : word_text x ≡ w
  pub fits : WordFits x

within_parts : (low high b : ℕ) → within low high b ≡ true → (low ≤ b) × (b ≤ high)
within_parts low high b h =
    let p = and_parts (leb low b) (leb b high) h in
    (leb-true low b p.0, leb-true b high p.1)

pub digits_one : (n : ℕ) → n < 10 → digits n ≡ (48 + n) ∷ []
digits_one n h = rw (lt-ltb n 10 h) refl

pub digits_two : (n : ℕ) → 10 ≤ n → digits n ≡ (48 + n / 10) ∷ (48 + n % 10) ∷ []
digits_two n h = rw (le-ltb n 10 h) refl

one_byte : (b : ℕ) → IsWord (b ∷ []) (word_of (b ∷ []))
one_byte b = digit (within 48 57 b) refl
  where
    other : (z : Bool) → IsWord (b ∷ []) (cond z (sign b) (name (b ∷ [])))
    other true = record { text = refl; fits = tt }
    other false = record { text = refl; fits = tt }

    lower : (y : Bool) → within 97 122 b ≡ y → IsWord (b ∷ []) (cond y (letter (b - 97)) (cond (is_sign b) (sign b) (name (b ∷ []))))
    lower true e =
        let p = within_parts 97 122 b e in
        record { text = ap (λ x. x ∷ []) (let q : 97 + (b - 97) ≡ b = omega arith in q); fits = omega arith }
    lower false e = other (is_sign b)

    digit : (x : Bool) → within 48 57 b ≡ x → IsWord (b ∷ []) (cond x (number (b - 48)) (cond (within 97 122 b) (letter (b - 97)) (cond (is_sign b) (sign b) (name (b ∷ [])))))
    digit true e =
        let p = within_parts 48 57 b e in
        record {
          text = digits_one (b - 48) (omega arith) ∙ ap (λ x. x ∷ []) (let q : 48 + (b - 48) ≡ b = omega arith in q);
          fits = omega arith;
        }
    digit false e = lower (within 97 122 b) refl

two_bytes : (b c : ℕ) → IsWord (b ∷ c ∷ []) (word_of (b ∷ c ∷ []))
two_bytes b c = both (within 49 57 b && within 48 57 c) refl
  where
    both : (x : Bool) → (within 49 57 b && within 48 57 c) ≡ x → IsWord (b ∷ c ∷ []) (cond x (number (10 * (b - 48) + (c - 48))) (name (b ∷ c ∷ [])))
    both true e =
        let p = and_parts (within 49 57 b) (within 48 57 c) e in
        let u = within_parts 49 57 b p.0 in
        let v = within_parts 48 57 c p.1 in
        let n = 10 * (b - 48) + (c - 48) in
        let f : 48 + n / 10 ≡ b = omega arith in
        let g : 48 + n % 10 ≡ c = omega arith in
        record {
          text = digits_two n (omega arith) ∙ ap (λ x. x ∷ (48 + n % 10) ∷ []) f ∙ ap (λ x. b ∷ x ∷ []) g;
          fits = omega arith;
        }
    both false e = record { text = refl; fits = tt }

pub is_word : (w : List ℕ) → IsWord w (word_of w)
is_word [] = record { text = refl; fits = tt }
is_word (b ∷ []) = one_byte b
is_word (b ∷ c ∷ []) = two_bytes b c
is_word (b ∷ c ∷ d ∷ w) = record { text = refl; fits = tt }

-- a line of three words
pub record IsThree (line : List ℕ) (t : Three) : Type 0 where
  pub text : line ≡ word_text t.first ++ 32 ∷ (word_text t.second ++ 32 ∷ word_text t.third)
  pub first : WordFits t.first
  pub second : WordFits t.second
  pub third : WordFits t.third

three_of_lem : (ws : List (List ℕ)) (line : List ℕ) (t : Three) → join_with_byte 32 ws ≡ line → three_of ws ≡ Some t → IsThree line t
three_of_lem [] line t g e = cc
three_of_lem (a ∷ []) line t g e = cc
three_of_lem (a ∷ b ∷ []) line t g e = cc
three_of_lem (a ∷ b ∷ c ∷ []) line t g e =
    let u : record { first = word_of a; second = word_of b; third = word_of c } ≡ t = cc in
    subst (IsThree line) u
    (record {
      text =
          sym g ∙ ap (λ x. x ++ 32 ∷ (b ++ 32 ∷ c)) (sym (is_word a).text)
          ∙ ap (λ x. word_text (word_of a) ++ 32 ∷ (x ++ 32 ∷ c)) (sym (is_word b).text)
          ∙ ap (λ x. word_text (word_of a) ++ 32 ∷ (word_text (word_of b) ++ 32 ∷ x)) (sym (is_word c).text);
      first = (is_word a).fits;
      second = (is_word b).fits;
      third = (is_word c).fits;
    })
three_of_lem (a ∷ b ∷ c ∷ d ∷ ws) line t g e = cc

pub is_three : (line : List ℕ) (t : Three) → three_words line ≡ Some t → IsThree line t
is_three line t e = three_of_lem (pieces 32 line) line t (glue_pieces 32 line) e

pub numeral_text : (w : Word) (n : ℕ) → numeral w ≡ Some n → WordFits w → (word_text w ≡ digits n) × (n < 100)
numeral_text (number m) n e h = let u : m ≡ n = cc in (ap digits u, omega arith)
numeral_text (letter i) n e h = cc
numeral_text (sign c) n e h = cc
numeral_text (name w) n e h = cc

pub flag_text_lem : (on : ℕ) (w : Word) (f : Bool) → flag on w ≡ Some f → word_text w ≡ flag_text on f ∷ []
flag_text_lem on (number m) f e = cc
flag_text_lem on (letter i) f e = cc
flag_text_lem on (sign c) f e = set (eqb c on) refl e
  where
    unset : (y : Bool) → eqb c 46 ≡ y → cond y (Some false) None ≡ Some f → c ∷ [] ≡ flag_text on f ∷ []
    unset true t e =
        let u : false ≡ f = cc in
        ap (λ x. x ∷ []) (eqb-true c 46 t ∙ ap (flag_text on) u)
    unset false t e = cc

    set : (x : Bool) → eqb c on ≡ x → cond x (Some true) (cond (eqb c 46) (Some false) None) ≡ Some f → c ∷ [] ≡ flag_text on f ∷ []
    set true t e =
        let u : true ≡ f = cc in
        ap (λ x. x ∷ []) (eqb-true c on t ∙ ap (flag_text on) u)
    set false t e = unset (eqb c 46) refl e
flag_text_lem on (name w) f e = cc

pub by_text_lem : (w : Word) (b : By) → by_of w ≡ Some b → WordFits w → (word_text w ≡ by_text b ∷ []) × LegibleBy b
by_text_lem (number n) b e h = cc
by_text_lem (letter i) b e h =
    let u : Letter i ≡ b = cc in
    (ap (λ x. by_text x ∷ []) u, subst LegibleBy u h)
by_text_lem (sign c) b e h = every (eqb c 35) refl e
  where
    every : (x : Bool) → eqb c 35 ≡ x → cond x (Some Every) None ≡ Some b → (c ∷ [] ≡ by_text b ∷ []) × LegibleBy b
    every true t e =
        let u : Every ≡ b = cc in
        (ap (λ x. x ∷ []) (eqb-true c 35 t ∙ ap by_text u), subst LegibleBy u tt)
    every false t e = cc
by_text_lem (name w) b e h = cc

pub named_text : (text : List ℕ) (w : Word) → named text w ≡ true → word_text w ≡ text
named_text text (number n) e = cc
named_text text (letter i) e = cc
named_text text (sign c) e = cc
named_text text (name w) e = (bytes_eq-Decides w text).0 e

pub make_state_lem : (o : Option ℕ) (p q : Option Bool) (s : StateLine) → make_state o p q ≡ Some s → (o ≡ Some s.number) × (p ≡ Some s.start) × (q ≡ Some s.mark)
make_state_lem None p q s e = cc
make_state_lem (Some n) None q s e = cc
make_state_lem (Some n) (Some a) None s e = cc
make_state_lem (Some n) (Some a) (Some b) s e =
    let u : record { number = n; start = a; mark = b } ≡ s = cc in
    (ap (λ x. Some x.number) u, ap (λ x. Some x.start) u, ap (λ x. Some x.mark) u)

pub make_step_lem : (o : Option ℕ) (b : Option By) (q : Option ℕ) (s : StepLine) → make_step o b q ≡ Some s → (o ≡ Some s.from) × (b ≡ Some s.by) × (q ≡ Some s.to)
make_step_lem None b q s e = cc
make_step_lem (Some n) None q s e = cc
make_step_lem (Some n) (Some a) None s e = cc
make_step_lem (Some n) (Some a) (Some b) s e =
    let u : record { from = n; by = a; to = b } ≡ s = cc in
    (ap (λ x. Some x.from) u, ap (λ x. Some x.by) u, ap (λ x. Some x.to) u)

-- which entries a stage takes
abbrev pub Belongs : Stage → Entry → Type 0
Belongs AtTitle e = e ≡ Title
Belongs AtCount e = (n : ℕ) × (e ≡ Count n)
Belongs AtColumns e = e ≡ Columns
Belongs AtStates e = (e ≡ Heading) ⊎ ((s : StateLine) × (e ≡ State s))
Belongs AtSteps e = (t : StepLine) × (e ≡ Step t)
