-- A node of height 2 * d + 1 reaches d + 1 different nodes of level s on cycles: each cycle on the way has such a node, and
-- the ways between the cycles pass marked nodes, which lie on no cycle, so that none leads back.
use Rattle.std.proofs.Common.{◌≡◌, ℕ, zero, suc, ◌*◌, ◌≤◌, true, sym, ap, refl, ◌∙◌, subst, arith}
use Rattle.std.proofs.lemmas.Bool.{cond-true, cond-false}
use Rattle.graph.specs.Graphs.{Graph}
use Rattle.graph.specs.Walks.{here, next, Path, OnCycle}
use Rattle.graph.proofs.Paths.{path_join}
use Rattle.rank.specs.Rules.{is_even}
use Rattle.rank.proofs.Parity.{even_double, odd_double}
use Rattle.rank.proofs.Reaching.{loops, loops_cycle}
use Rattle.rank.proofs.Heights.{alive, Higher, higher}
use Rattle.rank.proofs.Levels.{Levelled, Crowd, cycle_level}

-- a crowd that is reached from v
pub record Chain (g : Graph) (level : ℕ → ℕ) (s n v : ℕ) : Type 0 where
  pub crowd : Crowd g level s n
  pub reached : (i : ℕ) → i ≤ n → Path g v (crowd.at i)

-- x, and after it the values of f
abbrev preceded : ℕ → (ℕ → ℕ) → ℕ → ℕ
preceded x f zero = x
preceded x f (suc i) = f i

-- if one node of a cycle leads to another node and back, that one lies on a cycle too
cycle_moves : (g : Graph) (x u : ℕ) → OnCycle g x → Path g x u → Path g u x → OnCycle g u
cycle_moves g x u c p here = c
cycle_moves g x u c p (next {u = w} e q) = (w, e, path_join g u q p)

module _ (g : Graph) (level : ℕ → ℕ) (s x : ℕ) (at_level : level x ≡ s) (on_cycle : OnCycle g x) where
  one : (v : ℕ) → Path g v x → Chain g level s 0 v
  one v p =
      record {
        crowd = record { at = λ i. x; apart = λ i j hi hj e. omega arith; here = λ i h. at_level; cycle = λ i h. on_cycle };
        reached = λ i h. p;
      }

  module _ (n u : ℕ) (c : Chain g level s n u) (fresh : (i : ℕ) → i ≤ n → c.crowd.at i ≡ x → ⊥) where
    all : ℕ → ℕ
    all = preceded x c.crowd.at

    apart : (i j : ℕ) → i ≤ suc n → j ≤ suc n → all i ≡ all j → i ≡ j
    unfolding all
    apart zero zero hi hj e = refl
    apart zero (suc j) hi hj e = absurd (fresh j (omega arith) (sym e))
    apart (suc i) zero hi hj e = absurd (fresh i (omega arith) e)
    apart (suc i) (suc j) hi hj e = ap suc (c.crowd.apart i j (omega arith) (omega arith) e)

    -- each of them has what x has and the others have
    each : (P : ℕ → Type 0) → P x → ((i : ℕ) → i ≤ n → P (c.crowd.at i)) → (i : ℕ) → i ≤ suc n → P (all i)
    unfolding all
    each P first others zero h = first
    each P first others (suc i) h = others i (omega arith)

    grown : (v : ℕ) → Path g v x → Path g v u → Chain g level s (suc n) v
    grown v p q =
        record {
          crowd =
              record {
                at = all;
                apart = apart;
                here = each (λ y. level y ≡ s) at_level c.crowd.here;
                cycle = each (OnCycle g) on_cycle c.crowd.cycle;
              };
          reached = each (Path g v) p (λ i h. path_join g (c.crowd.at i) q (c.reached i h));
        }

module _ (g : Graph) (V : ℕ) (level : ℕ → ℕ) (e s : ℕ) (l : Levelled g V level e s) where
  -- from an odd height a cycle is reached, and from an even one a marked node
  odd_stop : (d v : ℕ) (h : Higher g V (2 * d) v) → OnCycle g h.node
  odd_stop d v h =
      loops_cycle g V h.node (sym (cond-true (is_even (2 * d)) (loops g V h.node) (g.marked h.node) (even_double d)) ∙ h.stops)

  even_stop : (d v : ℕ) (h : Higher g V (suc (2 * d)) v) → g.marked h.node ≡ true
  even_stop d v h =
      sym (cond-false (is_even (suc (2 * d))) (loops g V h.node) (g.marked h.node) (odd_double d)) ∙ h.stops

  -- the cycle of c has a node of level s
  first : (v c : ℕ) → Path g v c → OnCycle g c → Chain g level s 0 v
  first v c p k =
      let m = cycle_level g level e s l.round c k in
      one g level s m.0 m.1 (cycle_moves g c m.0 k m.2 m.3) v (path_join g m.0 p m.2)

  -- the marked u lies on no cycle, so no node of its chain leads back to c
  longer : (n v c u : ℕ) → Path g v c → OnCycle g c → Path g c u → g.marked u ≡ true → Chain g level s n u → Chain g level s (suc n) v
  longer n v c u p k q m chain =
      let r = cycle_level g level e s l.round c k in
      grown g level s r.0 r.1 (cycle_moves g c r.0 k r.2 r.3) n u chain
      (λ i h same. l.clean u m (cycle_moves g c u k q (path_join g c (subst (Path g u) same (chain.reached i h)) r.3)))
      v (path_join g r.0 p r.2) (path_join g u p q)

  pub odd_chain : (d v : ℕ) → alive g V (suc (2 * d)) v ≡ true → Chain g level s d v
  odd_chain zero v a = let h = higher g V 0 v a in first v h.node h.path (odd_stop 0 v h)
  odd_chain (suc d) v a =
      let two : 2 * suc d ≡ suc (suc (2 * d)) = omega arith in
      let h = higher g V (2 * suc d) v a in
      let k = higher g V (suc (2 * d)) h.node (subst (λ i. alive g V i h.node ≡ true) two h.height) in
      longer d v h.node k.node h.path (odd_stop (suc d) v h) k.path (even_stop d h.node k)
      (odd_chain d k.node k.height)
