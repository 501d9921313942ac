-- The laws of the rules' definitions, by their names, so that what rests on a definition that changes is proved again here.
use Rattle.std.proofs.Common.{◌≡◌, ℕ, ◌<◌, ◌≤◌, Bool, true, false, not, ◌&&◌, ◌||◌, eqb, leb, Some, None, Option, is_some, refl, ap, subst, ⊎_elim, arith}
use Rattle.std.proofs.lemmas.Bool.{and_from, and_parts, both_ways, cases_Bool, eq-eqb, false_from_ne_true, le-leb, leb-true, not-false, not-true, not_from_false, or_cases, or_left, or_right, false≢true}
use Rattle.chart.specs.Automata.{Automaton}
use Rattle.numbers.specs.Below.{all_below}
use Rattle.numbers.proofs.Below.{all_at, all_fails, all_from, any_at, any_from}
use Rattle.rank.specs.Nodes.{Node}
use Rattle.rank.proofs.Implied.{implied, implied_from}
use Rattle.rank.proofs.Parity.{even_double}
use Rattle.rank.specs.Rules.{top_rank, is_even, has_even, may_have, is_empty, follows, is_first_rank, at_most, is_next_rank, next_owed, next_turn, is_marked}

-- a set of states that is empty has no member, and one that is not has some
pub empty_none : (b : Automaton) (set : ℕ → Bool) (q : ℕ) → is_empty b set ≡ true → q < b.states → set q ≡ true → ⊥
empty_none b set q e h s = both_ways (set q) (not-true (set q) (all_at b.states (λ q. not (set q)) e q h)) s

pub empty_from : (b : Automaton) (set : ℕ → Bool) → ((q : ℕ) → q < b.states → set q ≡ true → ⊥) → is_empty b set ≡ true
empty_from b set none =
    all_from b.states (λ q. not (set q)) (λ q h. not_from_false (set q) (false_from_ne_true (set q) (none q h)))

pub some_member : (b : Automaton) (set : ℕ → Bool) → is_empty b set ≡ false → (q : ℕ) × (q < b.states) × (set q ≡ true)
some_member b set e =
    let a = all_fails b.states (λ q. not (set q)) e in
    (a.0, a.1, not-false (set a.0) a.2)

pub follows_from : (b : Automaton) (set : ℕ → Bool) (l p q : ℕ) → p < b.states → set p ≡ true → b.step p l q ≡ true → follows b set l q ≡ true
follows_from b set l p q h s e = any_from b.states (λ p. set p && b.step p l q) p h (and_from (set p) (b.step p l q) s e)

pub follows_some : (b : Automaton) (set : ℕ → Bool) (l q : ℕ) → follows b set l q ≡ true → (p : ℕ) × (p < b.states) × (set p ≡ true) × (b.step p l q ≡ true)
follows_some b set l q e =
    let a = any_at b.states (λ p. set p && b.step p l q) e in
    let s = and_parts (set a.0) (b.step a.0 l q) a.2 in
    (a.0, a.1, s.0, s.1)

pub some_value : (o : Option ℕ) → is_some o ≡ true → (r : ℕ) × (o ≡ Some r)
some_value None e = absurd (false≢true e)
some_value (Some r) e = (r, refl)

-- any state may have no rank
pub may_have_none : (b : Automaton) (q : ℕ) → may_have b q None ≡ true
may_have_none b q = refl

-- and else one up to the greatest, which is even where the state is marked
pub rank_most : (b : Automaton) (q r : ℕ) → may_have b q (Some r) ≡ true → r ≤ top_rank b
rank_most b q r e = leb-true r (top_rank b) (and_parts (leb r (top_rank b)) (not (b.mark q) || is_even r) e).0

pub marked_even : (b : Automaton) (q r : ℕ) → may_have b q (Some r) ≡ true → b.mark q ≡ true → is_even r ≡ true
marked_even b q r e m = implied (b.mark q) (is_even r) (and_parts (leb r (top_rank b)) (not (b.mark q) || is_even r) e).1 m

pub may_have_from : (b : Automaton) (q r : ℕ) → r ≤ top_rank b → (b.mark q ≡ true → is_even r ≡ true) → may_have b q (Some r) ≡ true
may_have_from b q r h e =
    and_from (leb r (top_rank b)) (not (b.mark q) || is_even r) (le-leb r (top_rank b) h) (implied_from (b.mark q) (is_even r) e)

-- the greatest rank is even
pub top_even : (b : Automaton) → is_even (top_rank b) ≡ true
top_even b = even_double b.states

-- with few states it fits four bits
pub top_small : (b : Automaton) → b.states ≤ 6 → top_rank b ≤ 12
top_small b few = omega arith

-- a start has the greatest rank
pub first_ranked : (b : Automaton) (q : ℕ) (o : Option ℕ) → is_first_rank b q o ≡ true → b.start q ≡ true → (r : ℕ) × (o ≡ Some r)
first_ranked b q None e s = absurd (both_ways (b.start q) (not-true (b.start q) e) s)
first_ranked b q (Some r) e s = (r, refl)

-- and only a start
pub first_start : (b : Automaton) (q r : ℕ) → is_first_rank b q (Some r) ≡ true → b.start q ≡ true
first_start b q r e = (and_parts (b.start q) (eqb r (top_rank b)) e).0

pub first_some : (b : Automaton) (q : ℕ) → b.start q ≡ true → is_first_rank b q (Some (top_rank b)) ≡ true
first_some b q s = and_from (b.start q) (eqb (top_rank b) (top_rank b)) s (eq-eqb (top_rank b) (top_rank b) refl)

pub first_none : (b : Automaton) (q : ℕ) → b.start q ≡ false → is_first_rank b q None ≡ true
first_none b q s = not_from_false (b.start q) s

rank_at_most : (b : Automaton) (rank : ℕ → Option ℕ) (l p q s r : ℕ) → rank p ≡ Some s → b.step p l q ≡ true
    → (not (b.step p l q) || at_most r (rank p)) ≡ true → r ≤ s
rank_at_most b rank l p q s r is step e =
    leb-true r s (subst (λ o. at_most r o ≡ true) is (implied (b.step p l q) (at_most r (rank p)) e step))

-- a state that follows one of rank s has a rank, which is at most s
pub next_ranked : (b : Automaton) (rank : ℕ → Option ℕ) (l p q s : ℕ) (o : Option ℕ) → is_next_rank b rank l q o ≡ true → p < b.states → rank p ≡ Some s
    → b.step p l q ≡ true → (r : ℕ) × (o ≡ Some r) × (r ≤ s)
next_ranked b rank l p q s None e h is step =
    let f = follows_from b (λ p. is_some (rank p)) l p q h (ap is_some is) step in
    absurd (both_ways (follows b (λ p. is_some (rank p)) l q) (not-true (follows b (λ p. is_some (rank p)) l q) e) f)
next_ranked b rank l p q s (Some r) e h is step =
    let low : ℕ → Bool = λ p. not (b.step p l q) || at_most r (rank p) in
    let here = all_at b.states low (and_parts (follows b (λ p. is_some (rank p)) l q) (all_below b.states low) e).1 p h in
    (r, refl, rank_at_most b rank l p q s r is step here)

-- a state that has a rank after a step follows one that had
pub next_follows : (b : Automaton) (rank : ℕ → Option ℕ) (l q r : ℕ) → is_next_rank b rank l q (Some r) ≡ true → follows b (λ p. is_some (rank p)) l q ≡ true
next_follows b rank l q r e =
    (and_parts (follows b (λ p. is_some (rank p)) l q) (all_below b.states (λ p. not (b.step p l q) || at_most r (rank p))) e).0

low_value : (r : ℕ) (o : Option ℕ) → ((s : ℕ) → o ≡ Some s → r ≤ s) → at_most r o ≡ true
low_value r None low = refl
low_value r (Some s) low = le-leb r s (low s refl)

-- a state that follows none has none
pub next_none : (b : Automaton) (rank : ℕ → Option ℕ) (l q : ℕ) → ((p s : ℕ) → rank p ≡ Some s → b.step p l q ≡ true → ⊥)
    → is_next_rank b rank l q None ≡ true
next_none b rank l q none =
    let f = follows b (λ p. is_some (rank p)) l q in
    ⊎_elim (λ yet. let a = follows_some b (λ p. is_some (rank p)) l q yet in
    let s = some_value (rank a.0) a.2 in absurd (none a.0 s.0 s.1 a.3))
    (λ not_one. not_from_false f not_one) (cases_Bool f)

-- and one that follows a ranked one may have each rank that is not above the ranks of those it follows
pub next_some : (b : Automaton) (rank : ℕ → Option ℕ) (l p q s r : ℕ) → p < b.states → rank p ≡ Some s → b.step p l q ≡ true
    → ((p s : ℕ) → rank p ≡ Some s → b.step p l q ≡ true → r ≤ s) → is_next_rank b rank l q (Some r) ≡ true
next_some b rank l p q s r h is step least =
    let low : ℕ → Bool = λ p. not (b.step p l q) || at_most r (rank p) in
    and_from (follows b (λ p. is_some (rank p)) l q) (all_below b.states low)
    (follows_from b (λ p. is_some (rank p)) l p q h (ap is_some is) step)
    (all_from b.states low
    (λ k below. implied_from (b.step k l q) (at_most r (rank k)) (λ step. low_value r (rank k) (λ s is. least k s is step))))

pub owed_even : (b : Automaton) (owed : ℕ → Bool) (l : ℕ) (rank : ℕ → Option ℕ) (q : ℕ) → next_owed b owed l rank q ≡ true → has_even (rank q) ≡ true
owed_even b owed l rank q e = (and_parts (has_even (rank q)) (is_empty b owed || follows b owed l q) e).0

-- where none was owed, each state of even rank is
pub owed_all : (b : Automaton) (owed : ℕ → Bool) (l : ℕ) (rank : ℕ → Option ℕ) (q : ℕ) → is_empty b owed ≡ true → has_even (rank q) ≡ true
    → next_owed b owed l rank q ≡ true
owed_all b owed l rank q e h =
    and_from (has_even (rank q)) (is_empty b owed || follows b owed l q) h (or_left (is_empty b owed) (follows b owed l q) e)

-- a state of even rank that follows an owed one is owed
pub owed_next : (b : Automaton) (owed : ℕ → Bool) (l : ℕ) (rank : ℕ → Option ℕ) (p q : ℕ) → p < b.states → owed p ≡ true → b.step p l q ≡ true
    → has_even (rank q) ≡ true → next_owed b owed l rank q ≡ true
owed_next b owed l rank p q h o s e =
    and_from (has_even (rank q)) (is_empty b owed || follows b owed l q) e
    (or_right (is_empty b owed) (follows b owed l q) (follows_from b owed l p q h o s))

-- where some were owed, an owed state follows one of them
pub owed_before : (b : Automaton) (owed : ℕ → Bool) (l : ℕ) (rank : ℕ → Option ℕ) (q : ℕ) → is_empty b owed ≡ false → next_owed b owed l rank q ≡ true
    → (p : ℕ) × (p < b.states) × (owed p ≡ true) × (b.step p l q ≡ true)
owed_before b owed l rank q some e =
    follows_some b owed l q
    (⊎_elim (λ none. absurd (both_ways (is_empty b owed) some none)) (λ f. f)
    (or_cases (is_empty b owed) (follows b owed l q) (and_parts (has_even (rank q)) (is_empty b owed || follows b owed l q) e).1))

-- a marked node has the turn set and nothing owed
pub marked_holds : (b : Automaton) (x : Node) → is_marked b x ≡ true → (x.turn ≡ true) × (is_empty b x.owed ≡ true)
marked_holds b x e = and_parts x.turn (is_empty b x.owed) e

pub marked_from : (b : Automaton) (x : Node) → x.turn ≡ true → is_empty b x.owed ≡ true → is_marked b x ≡ true
marked_from b x e f = and_from x.turn (is_empty b x.owed) e f

-- the turn waits for a marked state of the duty
pub turn_waits : (a b : Automaton) (x : Node) → x.turn ≡ false → next_turn a b x ≡ a.mark x.duty
turn_waits a b x e = rw e refl

-- and then for an empty owed set
pub turn_ends : (a b : Automaton) (x : Node) → x.turn ≡ true → is_empty b x.owed ≡ true → next_turn a b x ≡ false
turn_ends a b x e f = rw (e, f) refl

pub turn_lasts : (a b : Automaton) (x : Node) → x.turn ≡ true → is_empty b x.owed ≡ false → next_turn a b x ≡ true
turn_lasts a b x e f = rw (e, f) refl
