-- A graph whose nodes are states of an automaton at places of a lasso: each of its marked cycles is a run of the
-- automaton that closes whole laps later.
use Rattle.std.proofs.Common.{◌≡◌, ℕ, zero, suc, ◌+◌, ◌-◌, ◌*◌, ◌/◌, ◌%◌, ◌<◌, ◌≤◌, true, sym, ap, ◌∙◌, subst, arith}
use Rattle.std.proofs.lemmas.Nat.{div-mul-add, mod-mul-add}
use Rattle.numbers.proofs.Returning.{carried}
use Rattle.chart.specs.Automata.{Automaton}
use Rattle.graph.specs.Graphs.{Graph}
use Rattle.graph.specs.Walks.{MarkedCycle}
use Rattle.graph.proofs.Loops.{Loop, cycle_loop}
use Rattle.lasso.specs.Positions.{place, after}
use Rattle.lasso.specs.Words.{Returns}
use Rattle.lasso.proofs.Places.{place_apart, place_next, place_same, place_zero}

-- the node of state q at position k, in a lasso of n elements with a stem of j
abbrev pub spot : ℕ → ℕ → ℕ → ℕ → ℕ
spot n j k q = place n j k * 32 + q

pub spot_place : (n j k q : ℕ) → q < 32 → spot n j k q / 32 ≡ place n j k
spot_place n j k q h = div-mul-add (place n j k) 32 q h

pub spot_state : (n j k q : ℕ) → q < 32 → spot n j k q % 32 ≡ q
spot_state n j k q h = mod-mul-add (place n j k) 32 q h

-- whole laps later the same state is the same node
pub spot_laps : (n j k l c p q : ℕ) → j < n → j ≤ k → k ≤ l → l - k ≡ c * (n - j) → p ≡ q → spot n j k p ≡ spot n j l q
spot_laps n j k l c p q h late later laps same = omega (arith, place_apart n j k l c h late later laps, same)

-- A node v is the state v % 32 of m at place v / 32 of a lasso of n elements with a stem of j, and edges are steps of m
-- by the letter at the place.
pub record GoesAlong (g : Graph) (m : Automaton) (word : ℕ → ℕ) (n j : ℕ) : Type 0 where
  pub starts : (v : ℕ) → g.start v ≡ true → (v / 32 ≡ 0) × (m.start (v % 32) ≡ true)
  pub marks : (v : ℕ) → g.marked v ≡ true → m.mark (v % 32) ≡ true
  pub edges :
      (v l w : ℕ) → g.edge v l w ≡ true
      → (l ≡ word (v / 32)) × (w / 32 ≡ after n j (v / 32)) × (m.step (v % 32) l (w % 32) ≡ true)

-- a run of m from a start that comes back whole laps later, past a marked state
pub record Round (m : Automaton) (word : ℕ → ℕ) (n j : ℕ) : Type 0 where
  pub run : ℕ → ℕ
  pub starts : m.start (run 0) ≡ true
  pub back : Returns m run j (n - j)
  pub steps : (k : ℕ) → k < back.to → m.step (run k) (word (place n j k)) (run (suc k)) ≡ true

module _ (g : Graph) (m : Automaton) (word : ℕ → ℕ) (n j : ℕ) (h : j < n) (a : GoesAlong g m word n j) where
  -- a loop passes the places in their order
  loop_place : (l : Loop g) (k : ℕ) → k ≤ l.back.to → l.at k / 32 ≡ place n j k
  loop_place l zero _ = (a.starts (l.at 0) l.starts).0 ∙ sym (place_zero n j h)
  loop_place l (suc k) low =
      let e = a.edges (l.at k) (l.by k) (l.at (suc k)) (l.edges k (omega arith)).1 in
      e.1 ∙ (ap (after n j) (loop_place l k (omega arith)) ∙ sym (place_next n j k h))

  loop_step : (l : Loop g) (k : ℕ) → k < l.back.to → m.step (l.at k % 32) (word (place n j k)) (l.at (suc k) % 32) ≡ true
  loop_step l k low =
      let e = a.edges (l.at k) (l.by k) (l.at (suc k)) (l.edges k low).1 in
      let same : l.by k ≡ word (place n j k) = e.0 ∙ ap word (loop_place l k (omega arith)) in
      subst (λ x. m.step (l.at k % 32) x (l.at (suc k) % 32) ≡ true) same e.2

  pub cycle_round : MarkedCycle g → Round m word n j
  cycle_round c =
      let l = cycle_loop g c in
      let e : place n j l.back.from ≡ place n j l.back.to =
      sym (loop_place l l.back.from (omega (arith, l.back.goes))) ∙ (ap (λ v. v / 32) l.back.closes ∙ loop_place l l.back.to (omega arith)) in
      let laps = place_same n j l.back.from l.back.to h l.back.goes e in
      record {
        run = λ k. l.at k % 32;
        starts = (a.starts (l.at 0) l.starts).1;
        back =
            carried l.back (λ k. l.at k % 32) (λ k. m.mark (l.at k % 32) ≡ true) j (n - j) laps.0 laps.1 (ap (λ v. v % 32) l.back.closes)
            (λ k h. a.marks (l.at k));
        steps = loop_step l;
      }
