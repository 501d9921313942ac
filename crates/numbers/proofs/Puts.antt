-- A function changed at one place.
use Rattle.std.proofs.Common.{◌≡◌, ℕ, eqb, sym, refl, subst, ⊎_elim}
use mathlib.Core.Path.{fun_ext}
use Rattle.std.proofs.lemmas.Bool.{cases_eq, eq-eqb, ne_eqb, cond-true, cond-false}
use Rattle.numbers.specs.Puts.{put}

-- at place u: what holds at i, or what holds elsewhere
pub by_place : (P : ℕ → Type 0) (i u : ℕ) → P i → ((u ≡ i → ⊥) → P u) → P u
by_place P i u at_i other = ⊎_elim (λ (e : u ≡ i). subst P (sym e) at_i) other (cases_eq u i)

pub put_same : (f : ℕ → ℕ) (i x : ℕ) → put f i x i ≡ x
put_same f i x = cond-true (eqb i i) x (f i) (eq-eqb i i refl)

pub put_other : (f : ℕ → ℕ) (i x u : ℕ) → (u ≡ i → ⊥) → put f i x u ≡ f u
put_other f i x u ne = cond-false (eqb u i) x (f u) (ne_eqb u i ne)

-- nothing is changed by what was there
pub put_id : (f : ℕ → ℕ) (i : ℕ) → put f i (f i) ≡ f
put_id f i = fun_ext (λ u. by_place (λ u. put f i (f i) u ≡ f u) i u (put_same f i (f i)) (put_other f i (f i) u))
