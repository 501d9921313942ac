-- At most one line of a text is its first wrong one, and for one reason.
use Rattle.std.proofs.Common.{◌≡◌, ℕ, suc, ◌+◌, ◌<◌, List, [], ◌∷◌, ◌++◌, length, take, drop, sym, ap, ◌∙◌, subst, ⊎_elim, arith, length-append}
use Rattle.fault.specs.declared.TextFault.{TextFault}
use Rattle.fault.specs.declared.TextFault.TheVariants.{Form, Range}
use Rattle.std.proofs.Math.Seq.{take-append_seam, drop-append_seam}
use Rattle.std.proofs.lemmas.List.{append_assoc}
use Rattle.std.proofs.lemmas.Bool.{cases_order}
use Rattle.text.proofs.Runs.{legible_range}
use Rattle.text.specs.Documents.{Document, InRange}
use Rattle.text.specs.Refused.{Begin, Writable, Reaches, WrongForm, OutOfRange, WrongAt}

-- a list cut at two places
longer : {A : Type 0} (xs ys : List A) (x y : A) (u v : List A) → xs ++ x ∷ u ≡ ys ++ y ∷ v → length xs < length ys → (w : List A) × (ys ≡ xs ++ x ∷ w)
longer [] [] x y u v e h = absurd (omega arith)
longer [] (b ∷ ys) x y u v e h = let s : x ≡ b = cc in (ys, ap (λ z. z ∷ ys) (sym s))
longer (a ∷ xs) [] x y u v e h = absurd (omega arith)
longer (a ∷ xs) (b ∷ ys) x y u v e h =
    let s : a ≡ b = cc in
    let t : xs ++ x ∷ u ≡ ys ++ y ∷ v = cc in
    let r = longer xs ys x y u v t (omega arith) in
    (r.0, ap (λ z. z ∷ ys) (sym s) ∙ ap (λ z. a ∷ z) r.1)

same_cut : {A : Type 0} (xs ys : List A) (x y : A) (u v : List A) → xs ++ x ∷ u ≡ ys ++ y ∷ v → length xs ≡ length ys → (xs ≡ ys) × (x ≡ y) × (u ≡ v)
same_cut xs ys x y u v e h =
    let s : xs ≡ ys =
    sym (take-append_seam xs (x ∷ u)) ∙ ap (λ n. take n (xs ++ x ∷ u)) h ∙ ap (take (length ys)) e ∙ take-append_seam ys (y ∷ v) in
    let t : x ∷ u ≡ y ∷ v =
    sym (drop-append_seam xs (x ∷ u)) ∙ ap (λ n. drop n (xs ++ x ∷ u)) h ∙ ap (drop (length ys)) e ∙ drop-append_seam ys (y ∷ v) in
    let a : x ≡ y = cc in let b : u ≡ v = cc in (s, a, b)

begin_prefix : (P : Document → Type 0) (xs : List (List ℕ)) (x : List ℕ) (w : List (List ℕ)) → Begin P (xs ++ x ∷ w) → Begin P (xs ++ x ∷ [])
begin_prefix P xs x w b =
    (b.0, w ++ b.1, b.2, b.3 ∙ append_assoc xs (x ∷ w) b.1 ∙ sym (append_assoc xs (x ∷ []) (w ++ b.1)))

writable : (ls : List (List ℕ)) → Begin InRange ls → Begin Writable ls
writable ls b = (b.0, b.1, legible_range b.0 b.2, b.3)

-- where a fault is
abbrev line_of : TextFault → ℕ
line_of (Form n) = n
line_of (Range n) = n

reaching : (text : List ℕ) (e : TextFault) → WrongAt text e → Reaches text (line_of e)
reaching text (Form n) w = w.reaches
reaching text (Range n) w = w.reaches

-- no document in range goes on past a wrong line
stops : (text : List ℕ) (e : TextFault) (w : WrongAt text e) → ((reaching text e w).after ≡ [] → ⊥) → Begin InRange ((reaching text e w).before ++ (reaching text e w).line ∷ []) → ⊥
unfolding reaching
stops text (Form n) w more b =
    ⊎_elim more (λ none. none (writable (w.reaches.before ++ w.reaches.line ∷ []) b)) w.wrong
stops text (Range n) w more b = w.wrong b

never_later : (text : List ℕ) (e f : TextFault) (we : WrongAt text e) (wf : WrongAt text f) → length (reaching text e we).before < length (reaching text f wf).before → ⊥
never_later text e f we wf h =
    let p = reaching text e we in
    let q = reaching text f wf in
    let same : p.before ++ p.line ∷ p.after ≡ q.before ++ q.line ∷ q.after = sym p.split ∙ q.split in
    let r = longer p.before q.before p.line q.line p.after q.after same h in
    let lens : length p.before + suc (length p.after) ≡ length q.before + suc (length q.after) =
    sym (length-append p.before (p.line ∷ p.after)) ∙ ap length same ∙ length-append q.before (q.line ∷ q.after) in
    stops text e we (λ none. let z : length p.after ≡ 0 = ap length none in omega arith)
    (begin_prefix InRange p.before p.line r.0 (subst (Begin InRange) r.1 q.begun))

-- the form and the range of one line are not both wrong
never_both : (text : List ℕ) (m n : ℕ) (a : WrongForm text m) (b : OutOfRange text n) → length a.reaches.before ≡ length b.reaches.before → ⊥
never_both text m n a b h =
    let p = a.reaches in
    let q = b.reaches in
    let r = same_cut p.before q.before p.line q.line p.after q.after (sym p.split ∙ q.split) h in
    ⊎_elim (λ none. b.ended (sym r.2 ∙ none))
    (λ none. none (subst (λ x. Begin Writable (x ++ p.line ∷ [])) (sym r.0) (subst (λ x. Begin Writable (q.before ++ x ∷ [])) (sym r.1) b.formed)))
    a.wrong

same_fault : (text : List ℕ) (e f : TextFault) (we : WrongAt text e) (wf : WrongAt text f) → length (reaching text e we).before ≡ length (reaching text f wf).before → e ≡ f
unfolding reaching
same_fault text (Form m) (Form n) we wf h = ap Form (we.reaches.place ∙ ap (λ x. x + 1) h ∙ sym wf.reaches.place)
same_fault text (Form m) (Range n) we wf h = absurd (never_both text m n we wf h)
same_fault text (Range m) (Form n) we wf h = absurd (never_both text n m wf we (sym h))
same_fault text (Range m) (Range n) we wf h = ap Range (we.reaches.place ∙ ap (λ x. x + 1) h ∙ sym wf.reaches.place)

pub wrong_once : (text : List ℕ) (e f : TextFault) → WrongAt text e → WrongAt text f → e ≡ f
wrong_once text e f we wf =
    ⊎_elim (same_fault text e f we wf)
    (⊎_elim (λ h. absurd (never_later text e f we wf h)) (λ h. absurd (never_later text f e wf we h)))
    (cases_order (length (reaching text e we).before) (length (reaching text f wf).before))
