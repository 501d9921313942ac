-- Pieces put together again.
use Rattle.std.proofs.Common.{◌≡◌, ℕ, List, [], ◌∷◌, ◌++◌, All, sym, refl, ap, ◌∙◌}
use Rattle.std.proofs.lemmas.List.{append_assoc}
use Rattle.std.proofs.lemmas.List.Elements.{All-head, All-tail}
use Rattle.std.proofs.lemmas.List.Splits.{join_with_byte-slice_split}
use Rattle.std.specs.List.{flat_map, join_with_byte}
use Rattle.text.proofs.Cuts.{Plain, pieces_split, pieces_cut}
use Rattle.text.specs.Documents.{ended}
use Rattle.text.specs.Pieces.{pieces}

pub glue_pieces : (s : ℕ) (t : List ℕ) → join_with_byte s (pieces s t) ≡ t
glue_pieces s t = ap (join_with_byte s) (pieces_split s t) ∙ join_with_byte-slice_split s t

-- a text whose lines are all ended, and nothing behind them
pub glue_ended : (ls : List (List ℕ)) → join_with_byte 10 (ls ++ [] ∷ []) ≡ flat_map ended ls
glue_ended [] = refl
glue_ended (l ∷ []) = sym (append_assoc l (10 ∷ []) []) ∙ refl
glue_ended (l ∷ (m ∷ ls)) =
    ap (λ x. l ++ 10 ∷ x) (glue_ended (m ∷ ls)) ∙ sym (append_assoc l (10 ∷ []) (flat_map ended (m ∷ ls)))

pub pieces_ended : (ls : List (List ℕ)) → All (Plain 10) ls → pieces 10 (flat_map ended ls) ≡ ls ++ [] ∷ []
pieces_ended [] h = refl
pieces_ended (l ∷ ls) h =
    ap (pieces 10) (append_assoc l (10 ∷ []) (flat_map ended ls)) ∙ pieces_cut 10 l (flat_map ended ls) (All-head (Plain 10) l ls h)
    ∙ ap (λ x. l ∷ x) (pieces_ended ls (All-tail (Plain 10) l ls h))
