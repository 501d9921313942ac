-- Where few places hold every reachable node, of more reachable nodes two are the same, and so not more are reachable. Where they
-- hold different ones, and not all, more are.
use Rattle.std.proofs.Common.{◌≡◌, ℕ, ◌<◌, ◌≤◌, ◌⊎◌, sym, refl, ap, ◌∙◌, subst, inl, inr, arith}
use Rattle.std.proofs.lemmas.Bool.{cases_lt}
use Rattle.numbers.specs.Puts.{put}
use Rattle.numbers.proofs.Pigeonhole.{pigeonhole, Twice}
use Rattle.numbers.proofs.Puts.{by_place, put_same, put_other}
use Rattle.graph.specs.Graphs.{Graph}
use Rattle.graph.specs.Walks.{Reach, More}

-- each reachable node stands at one of so many places
abbrev pub Placed : Graph → ℕ → (ℕ → ℕ) → Type 0
Placed g count node = (v : ℕ) → Reach g v → (i : ℕ) × (i < count) × (node i ≡ v)

module _ (g : Graph) (n count : ℕ) (node : ℕ → ℕ) (few : count ≤ n) (whole : Placed g count node) where
  module _ (at : ℕ → ℕ) (reached : (i : ℕ) → i ≤ n → Reach g (at i)) where
    -- the place of the node that stands at i
    place_by : (i : ℕ) → (n < i) ⊎ (i ≤ n) → ℕ
    place_by i (inl past) = 0
    place_by i (inr le) = (whole (at i) (reached i le)).0

    place_right : (i : ℕ) (c : (n < i) ⊎ (i ≤ n)) → i ≤ n → (place_by i c < count) × (node (place_by i c) ≡ at i)
    unfolding place_by
    place_right i (inl past) le = absurd (omega arith)
    place_right i (inr h) le = let w = whole (at i) (reached i h) in (w.1, w.2)

    pub same_twice : Twice n at
    same_twice =
        let place : ℕ → ℕ = λ i. place_by i (cases_lt n i) in
        let right : (i : ℕ) → i ≤ n → (place i < count) × (node (place i) ≡ at i) = λ i. place_right i (cases_lt n i) in
        let (i, j, lt, le, same) = pigeonhole n place (λ k h. omega (arith, (right k h).0)) in
        (i, j, lt, le, sym (right i (omega arith)).1 ∙ (ap node same ∙ (right j le).1))

  pub not_more : More g n → ⊥
  not_more more =
      let (i, j, lt, le, same) = same_twice more.at more.reached in
      omega (arith, more.apart i j (omega arith) le same)

-- so many places hold different reachable nodes, and one node more is reachable
module _ (g : Graph) (n v : ℕ) (node : ℕ → ℕ) (apart : (i j : ℕ) → i < n → j < n → node i ≡ node j → i ≡ j)
    (reached : (i : ℕ) → i < n → Reach g (node i)) (other : Reach g v) (new : (i : ℕ) → i < n → node i ≡ v → ⊥) where
  pub one_more : More g n
  one_more =
      record {
        at = put node n v;
        apart =
            λ i j hi hj. by_place (λ i. i ≤ n → put node n v i ≡ put node n v j → i ≡ j) n i
            (λ hi. by_place (λ j. j ≤ n → put node n v n ≡ put node n v j → n ≡ j) n j (λ hj e. refl)
            (λ ne hj e. absurd
            (new j (omega arith) (sym (put_other node n v j ne) ∙ (sym e ∙ put_same node n v)))) hj)
            (λ ni hi. by_place (λ j. j ≤ n → put node n v i ≡ put node n v j → i ≡ j) n j
            (λ hj e. absurd
            (new i (omega arith) (sym (put_other node n v i ni) ∙ (e ∙ put_same node n v))))
            (λ nj hj e. apart i j (omega arith) (omega arith)
            (sym (put_other node n v i ni) ∙ (e ∙ put_other node n v j nj))) hj) hi;
        reached =
            λ i. by_place (λ i. i ≤ n → Reach g (put node n v i)) n i
            (λ hi. subst (λ x. Reach g x) (sym (put_same node n v)) other)
            (λ ne hi. subst (λ x. Reach g x) (sym (put_other node n v i ne)) (reached i (omega arith)));
      }
