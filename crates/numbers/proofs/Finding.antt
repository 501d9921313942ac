-- What the least number that passes a test tells, and how it is found.
use Rattle.std.proofs.Common.{◌≡◌, ℕ, ◌<◌, ◌≤◌, ◌≢◌, Bool, true, false, List, Some, None, Option, MatchOption, subst}
use mathlib.Core.Path.{fun_ext}
use Rattle.std.specs.declared.ops.Range.{Range}
use Rattle.std.specs.Fn.{CalledAt}
use Rattle.std.specs.Iterator.{YieldsThen}
use Rattle.std.specs.List.{FoldsTo}
use Rattle.std.proofs.iter.Yields.{nat_range_steps}
use Rattle.std.proofs.lemmas.Iterator.{first_from_Range}
use denote.Param.Members.{Mut}
use denote.Ref.{Bor}
use Rattle.numbers.specs.Least.{Least}

-- tests that answer alike have the same least
pub least_same : (P Q : ℕ → Bool) (from : ℕ) (r : Option ℕ) → ((v : ℕ) → P v ≡ Q v) → Least P from r → Least Q from r
least_same P Q from r same h = subst (λ (T : ℕ → Bool). Least T from r) (fun_ext same) h

-- The first of a range that a test finds is the least that passes it, where none beyond the range does.
least_in_range : (P : ℕ → Bool) (from end : ℕ) → ((v : ℕ) → P v ≡ true → v < end) → (r : Option ℕ)
    → MatchOption r ((k : ℕ) → from ≤ k → k < end → P k ≢ true)
    (λ i. (from ≤ i) × (i < end) × (P i ≡ true) × ((k : ℕ) → from ≤ k → k < i → P k ≢ true))
    → Least P from r
least_in_range P from end within None none = λ v low e. none v low (within v e) e
least_in_range P from end within (Some v) (low, below, e, least) = (low, e, least)

-- the same of what `find` answers, where the closure answers as P does
pub least_found : {F : Type 0} {g : Mut F (Bor ℕ × Unit {0}) Bool} (P : ℕ → Bool) (s u : Range ℕ) (f : F) (r : Option ℕ)
    → ((v : ℕ) → P v ≡ true → v < s.end)
    → (xs : List ℕ) × (j : F) × YieldsThen nat_range_steps s xs r u × FoldsTo (λ p x q. CalledAt g p x false q) f xs j
    × MatchOption r (Unit {0}) (λ x. (h : F) × CalledAt g j x true h)
    → ((x : ℕ) (q : F) → CalledAt g f x true q → P x ≡ true)
    → ((x : ℕ) (q : F) → CalledAt g f x false q → (q ≡ f) × (P x ≢ true))
    → Least P s.start r
least_found P s u f r within ran passed failed =
    least_in_range P s.start s.end within r (first_from_Range s u f r (λ x. P x ≡ true) (λ x. P x ≢ true) ran passed failed)
