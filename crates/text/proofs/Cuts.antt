-- A text and its pieces.
use Rattle.std.proofs.Common.{◌≡◌, ℕ, ◌+◌, ◌<◌, ◌≤◌, Bool, true, false, cond, eqb, List, [], ◌∷◌, ◌++◌, All, length, get_or, take, drop, sym, refl, ap, ◌∙◌, arith}
use Rattle.std.proofs.lemmas.List.{take-append-drop, drop_more, get_or-take, length-take-le}
use Rattle.std.proofs.lemmas.List.Elements.{All-from_get_or}
use Rattle.std.proofs.lemmas.List.Splits.{slice_split_none, slice_split_at}
use Rattle.std.proofs.lemmas.Bool.{eq-eqb, ne_eqb}
use Rattle.std.specs.List.{slice_split, onto_first}
use Rattle.text.specs.Pieces.{front, later, pieces}

abbrev pub Other : ℕ → ℕ → Type 0
Other s b = eqb b s ≡ false

-- s does not stand in the text
abbrev pub Plain : ℕ → List ℕ → Type 0
Plain s t = All (Other s) t

-- the pieces are the parts of the library's split
pub pieces_split : (s : ℕ) (t : List ℕ) → pieces s t ≡ slice_split (λ b. eqb b s) t
pieces_split s [] = refl
pieces_split s (b ∷ bs) = by (eqb b s) (pieces_split s bs)
  where
    by : (x : Bool) → pieces s bs ≡ slice_split (λ b. eqb b s) bs → cond x [] (b ∷ front s bs) ∷ cond x (front s bs ∷ later s bs) (later s bs) ≡ cond x ([] ∷ slice_split (λ b. eqb b s) bs) (onto_first b (slice_split (λ b. eqb b s) bs))
    by true h = ap (λ y. [] ∷ y) h
    by false h = ap (onto_first b) h

pub pieces_plain : (s : ℕ) (t : List ℕ) → Plain s t → pieces s t ≡ t ∷ []
pieces_plain s t h = pieces_split s t ∙ slice_split_none (λ b. eqb b s) t h

pub pieces_cut : (s : ℕ) (a b : List ℕ) → Plain s a → pieces s (a ++ s ∷ b) ≡ a ∷ pieces s b
pieces_cut s a b h =
    pieces_split s (a ++ s ∷ b) ∙ slice_split_at (λ x. eqb x s) a s b h (eq-eqb s s refl)
    ∙ ap (λ x. a ∷ x) (sym (pieces_split s b))

plain_take : (s : ℕ) (xs : List ℕ) (i : ℕ) → i ≤ length xs → ((k : ℕ) → k < i → get_or xs k 0 ≡ s → ⊥) → Plain s (take i xs)
plain_take s xs i l h =
    All-from_get_or (Other s) (take i xs) 0
    (λ k kl. let ki : k < i = omega (arith, length-take-le i xs l) in
    rw (get_or-take i xs k 0 ki) (ne_eqb (get_or xs k 0) s (h k ki)))

-- the first separator stands at i
pub cut_whole : (s : ℕ) (xs : List ℕ) (i : ℕ) → i < length xs → get_or xs i 0 ≡ s → xs ≡ take i xs ++ s ∷ drop (i + 1) xs
cut_whole s xs i l e =
    sym (take-append-drop i xs) ∙ ap (λ y. take i xs ++ y) (drop_more xs i 0 l ∙ ap (λ y. y ∷ drop (i + 1) xs) e)

pub cut_pieces : (s : ℕ) (xs : List ℕ) (i : ℕ) → i < length xs → ((k : ℕ) → k < i → get_or xs k 0 ≡ s → ⊥) → get_or xs i 0 ≡ s → pieces s xs ≡ take i xs ∷ pieces s (drop (i + 1) xs)
cut_pieces s xs i l h e =
    ap (pieces s) (cut_whole s xs i l e) ∙ pieces_cut s (take i xs) (drop (i + 1) xs) (plain_take s xs i (omega arith) h)

pub uncut_pieces : (s : ℕ) (xs : List ℕ) → ((k : ℕ) → k < length xs → get_or xs k 0 ≡ s → ⊥) → pieces s xs ≡ xs ∷ []
uncut_pieces s xs h =
    pieces_plain s xs (All-from_get_or (Other s) xs 0 (λ k kl. ne_eqb (get_or xs k 0) s (h k kl)))
