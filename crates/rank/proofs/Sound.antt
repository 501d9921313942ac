-- An endless walk of the ranked graph past marked nodes goes by a word that the duty accepts and the rule does not. The
-- duty's states on it are a run of the duty, and before each marked node the turn rises past a marked state. A run of the
-- rule over the same letters has a rank at each position, which never rises, and where it passes a marked state the rank is
-- even. After that the owed set is empty at some position, and again at a later one. If the rank had not fallen by then, the
-- run's state would be owed there. So past marked states without end the rank would fall without end.
use Rattle.std.proofs.Common.{◌≡◌, ℕ, zero, suc, ◌+◌, ◌-◌, ◌<◌, ◌≤◌, Bool, true, false, Some, ◌∙◌, sym, subst, ap, ⊎_elim, arith}
use Rattle.std.proofs.lemmas.Bool.{both_ways, cases_Bool, cases_lt}
use Rattle.chart.specs.Automata.{Automaton, Limits}
use Rattle.lasso.specs.Words.{Accepts}
use Rattle.rank.specs.Complement.{AcceptedAlone, ranked}
use Rattle.rank.specs.Layout.{parts}
use Rattle.rank.specs.Nodes.{Node}
use Rattle.rank.specs.Rules.{is_even, has_even, may_have, is_empty}
use Rattle.rank.proofs.Laws.{empty_none, marked_even, next_ranked, first_ranked, owed_all, owed_next, turn_ends, turn_waits}
use Rattle.rank.proofs.Tests.{Start, Step, Edges, edge_holds, first_holds, mark_holds, number_holds}

-- a sequence that is false at i and true at a later j rises somewhere between
rises : (f : ℕ → Bool) (d i j : ℕ) → i + d ≡ j → f i ≡ false → f j ≡ true → (k : ℕ) × (i ≤ k) × (f k ≡ false) × (f (suc k) ≡ true)
rises f zero i j e low high = let same : i ≡ j = omega arith in absurd (both_ways (f i) low (rw same high))
rises f (suc d) i j e low high =
    ⊎_elim (λ up. (i, omega arith, low, up)) (λ still. let r = rises f d (suc i) j (omega arith) still high in (r.0, omega (arith, r.1), r.2, r.3))
    (cases_Bool (f (suc i)))

module _ (a b : Automaton) (word : ℕ → ℕ) (w : Accepts (ranked a b) word) where
  node : ℕ → Node
  node k = parts (w.run k)

  edge : (k : ℕ) → Edges a b (w.run k) (word k) (w.run (suc k))
  edge k = edge_holds a b (w.run k) (word k) (w.run (suc k)) (w.steps k)

  step : (k : ℕ) → Step a b (node k) (word k) (node (suc k))
  unfolding node
  step k = (edge k).step

  start : Start a b (node 0)
  unfolding node
  start = first_holds a b (w.run 0) w.starts

  -- where a marked node comes at or after position k
  spot : ℕ → ℕ
  spot k = (w.again k).0

  spot_late : (k : ℕ) → k ≤ spot k
  unfolding spot
  spot_late k = (w.again k).1

  spot_marked : (k : ℕ) → ((node (spot k)).turn ≡ true) × (is_empty b (node (spot k)).owed ≡ true)
  unfolding node spot
  spot_marked k = mark_holds a b (w.run (w.again k).0) (w.again k).2

  -- between two marked nodes the turn rises
  duty_again : (k : ℕ) → (i : ℕ) × (k ≤ i) × (a.mark (node i).duty ≡ true)
  duty_again k =
      let i = spot k in
      let m = spot_marked k in
      let j = spot (suc i) in
      let ended : (node (suc i)).turn ≡ false = (step i).turn ∙ turn_ends a b (node i) m.0 m.1 in
      let late : suc i + (j - suc i) ≡ j = omega (arith, spot_late (suc i)) in
      let r = rises (λ t. (node t).turn) (j - suc i) (suc i) j late ended (spot_marked (suc i)).0 in
      (r.0, omega (arith, r.1, spot_late k), sym (turn_waits a b (node r.0) r.2) ∙ (sym (step r.0).turn ∙ r.3))

  pub duty_accepts : Accepts a word
  duty_accepts =
      record { run = λ k. (node k).duty; starts = start.duty; steps = λ k. (step k).duty; again = duty_again }

  module _ (rule : Limits b) (r : Accepts b word) where
    below : (k : ℕ) → r.run k < b.states
    below k = (rule.steps (r.run k) (word k) (r.run (suc k)) (r.steps k)).0

    -- the rank of the run's state at position k
    abbrev Ranked : ℕ → ℕ → Type 0
    Ranked k s = (node k).rank (r.run k) ≡ Some s

    ranked_next : (k s : ℕ) → Ranked k s → (t : ℕ) × Ranked (suc k) t × (t ≤ s)
    ranked_next k s e =
        next_ranked b (node k).rank (word k) (r.run k) (r.run (suc k)) s ((node (suc k)).rank (r.run (suc k)))
        ((step k).ranks (r.run (suc k)) (below (suc k))) (below k) e (r.steps k)

    ranks : (k : ℕ) → (s : ℕ) × Ranked k s
    ranks zero = first_ranked b (r.run 0) ((node 0).rank (r.run 0)) (start.ranks (r.run 0) (below 0)) r.starts
    ranks (suc k) = let n = ranked_next k (ranks k).0 (ranks k).1 in (n.0, n.1)

    rank : ℕ → ℕ
    rank k = (ranks k).0

    rank_next : (k : ℕ) → rank (suc k) ≤ rank k
    unfolding rank ranks
    rank_next k = (ranked_next k (ranks k).0 (ranks k).1).2

    rank_falls : (d i j : ℕ) → i + d ≡ j → rank j ≤ rank i
    rank_falls zero i j e = let same : i ≡ j = omega arith in omega (arith, ap rank same)
    rank_falls (suc d) i j e = omega (arith, rank_falls d (suc i) j (omega arith), rank_next i)

    -- at a marked state it is even
    rank_marked : (k : ℕ) → b.mark (r.run k) ≡ true → is_even (rank k) ≡ true
    unfolding rank node
    rank_marked k m =
        let e = (number_holds a b (w.run k) (edge k).from).valid.ranks (r.run k) (below k) in
        marked_even b (r.run k) (ranks k).0 (subst (λ o. may_have b (r.run k) o ≡ true) (ranks k).1 e) m

    has : (k : ℕ) → is_even (rank k) ≡ true → has_even ((node k).rank (r.run k)) ≡ true
    unfolding rank
    has k e = subst (λ o. has_even o ≡ true) (sym (ranks k).1) e

    -- after an empty owed set the run is owed for as long as its rank is even
    owing : (d i j : ℕ) → suc i + d ≡ j → is_empty b (node i).owed ≡ true → ((k : ℕ) → i ≤ k → k ≤ j → is_even (rank k) ≡ true)
        → (node j).owed (r.run j) ≡ true
    owing zero i j e none even =
        let same : suc i ≡ j = omega arith in
        subst (λ k. (node k).owed (r.run k) ≡ true) same
        ((step i).owed (r.run (suc i)) (below (suc i))
        ∙ owed_all b (node i).owed (word i) (node (suc i)).rank (r.run (suc i)) none (has (suc i) (even (suc i) (omega arith) (omega arith))))
    owing (suc d) i j e none even =
        let k = i + suc d in
        let same : suc k ≡ j = omega arith in
        let before = owing d i k (omega arith) none (λ m low high. even m low (omega arith)) in
        subst (λ k. (node k).owed (r.run k) ≡ true) same
        ((step k).owed (r.run (suc k)) (below (suc k))
        ∙ owed_next b (node k).owed (word k) (node (suc k)).rank (r.run k) (r.run (suc k)) (below k) before (r.steps k)
        (has (suc k) (even (suc k) (omega arith) (omega arith))))

    -- so after any position the rank falls
    falls : (m : ℕ) → (k : ℕ) × (rank k < rank m)
    falls m =
        let i = (r.again m).0 in
        let late : m ≤ i = (r.again m).1 in
        let t = spot i in
        let u = spot (suc t) in
        let after_i : i ≤ t = spot_late i in
        let after_t : suc t ≤ u = spot_late (suc t) in
        let start : rank i ≤ rank m = rank_falls (i - m) m i (omega arith) in
        ⊎_elim (λ (low : rank u < rank i). (u, omega arith))
        (λ (high : rank i ≤ rank u).
        let even : (k : ℕ) → t ≤ k → k ≤ u → is_even (rank k) ≡ true =
        λ k low up. let same : rank i ≡ rank k =
        omega (arith, rank_falls (k - i) i k (omega arith), rank_falls (u - k) k u (omega arith)) in
        subst (λ x. is_even x ≡ true) same (rank_marked i (r.again m).2) in
        let owed = owing (u - suc t) t u (omega arith) (spot_marked i).1 even in
        absurd (empty_none b (node u).owed (r.run u) (spot_marked (suc t)).1 (below u) owed))
        (cases_lt (rank u) (rank i))

    never : (most m : ℕ) → rank m ≤ most → ⊥
    never zero m h = let f = falls m in omega (arith, f.1)
    never (suc most) m h = let f = falls m in never most f.0 (omega (arith, f.1))

  pub rule_rejects : Limits b → Accepts b word → ⊥
  rule_rejects rule r = never rule r (rank rule r 0) 0 (omega arith)

pub sound : (a b : Automaton) → Limits b → (word : ℕ → ℕ) → Accepts (ranked a b) word → AcceptedAlone a b word
sound a b rule word w = record { accepted = duty_accepts a b word w; rejected = rule_rejects a b word w rule }
