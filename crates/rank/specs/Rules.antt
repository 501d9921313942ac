-- The rules of the ranked graph of a duty a and a rule b, over the parts of nodes.
use Rattle.std.specs.Prelude.{ℕ, ◌*◌, ◌%◌, Bool, true, false, cond, not, ◌&&◌, ◌||◌, Some, None, Option, is_some, ◌==◌, nat_le, nat_lt}
use Rattle.std.specs.Bool.{beq}
use Rattle.chart.specs.Automata.{Automaton}
use Rattle.numbers.specs.Below.{all_below, any_below}
use Rattle.rank.specs.Nodes.{Node}

-- the greatest rank
abbrev pub top_rank : Automaton → ℕ
top_rank b = 2 * b.states

abbrev pub is_even : ℕ → Bool
is_even r = r % 2 == 0

-- there is a rank, and it is even
abbrev pub has_even : Option ℕ → Bool
has_even None = false
has_even (Some r) = is_even r

-- The ranks that state q may have: none, or one up to the greatest, and never an odd one where q is marked.
abbrev pub may_have : Automaton → ℕ → Option ℕ → Bool
may_have b q None = true
may_have b q (Some r) = nat_le r (top_rank b) && (not (b.mark q) || is_even r)

-- a set of the rule's states has no member
abbrev pub is_empty : Automaton → (ℕ → Bool) → Bool
is_empty b set = all_below b.states (λ q. not (set q))

-- by letter l state q follows a member of the set
abbrev pub follows : Automaton → (ℕ → Bool) → ℕ → ℕ → Bool
follows b set l q = any_below b.states (λ p. set p && b.step p l q)

-- x is a node: the duty's state is one, each state has a rank that it may have, and only states of even rank are owed.
abbrev pub is_node : Automaton → Automaton → Node → Bool
is_node a b x =
    nat_lt x.duty a.states
    && all_below b.states (λ q. may_have b q (x.rank q) && (not (x.owed q) || has_even (x.rank q)))

-- the ranks at a start: the greatest at the rule's starts, and none elsewhere
abbrev pub is_first_rank : Automaton → ℕ → Option ℕ → Bool
is_first_rank b q None = not (b.start q)
is_first_rank b q (Some r) = b.start q && r == top_rank b

abbrev pub is_start : Automaton → Automaton → Node → Bool
is_start a b x =
    a.start x.duty
    && (all_below b.states (λ q. is_first_rank b q (x.rank q)) && (is_empty b x.owed && not x.turn))

-- r is not above the rank, if there is one
abbrev pub at_most : ℕ → Option ℕ → Bool
at_most r None = true
at_most r (Some s) = nat_le r s

-- The next ranks: exactly the states that follow a ranked one have a rank, which is not above the rank of any state that
-- they follow.
abbrev pub is_next_rank : Automaton → (ℕ → Option ℕ) → ℕ → ℕ → Option ℕ → Bool
is_next_rank b rank l q None = not (follows b (λ p. is_some (rank p)) l q)
is_next_rank b rank l q (Some r) =
    follows b (λ p. is_some (rank p)) l q && all_below b.states (λ p. not (b.step p l q) || at_most r (rank p))

-- The next owed set, where `rank` are the next ranks: of the states of even rank all if none was owed, else those that
-- follow an owed one.
abbrev pub next_owed : Automaton → (ℕ → Bool) → ℕ → (ℕ → Option ℕ) → ℕ → Bool
next_owed b owed l rank q = has_even (rank q) && (is_empty b owed || follows b owed l q)

-- The next turn: a marked state of the duty ends the wait for one, and an empty owed set begins it again.
abbrev pub next_turn : Automaton → Automaton → Node → Bool
next_turn a b x = cond x.turn (not (is_empty b x.owed)) (a.mark x.duty)

-- from x by letter l to y
abbrev pub is_step : Automaton → Automaton → Node → ℕ → Node → Bool
is_step a b x l y =
    a.step x.duty l y.duty
    && (all_below b.states (λ q. is_next_rank b x.rank l q (y.rank q))
    && (all_below b.states (λ q. beq (y.owed q) (next_owed b x.owed l y.rank q)) && beq y.turn (next_turn a b x)))

abbrev pub is_marked : Automaton → Node → Bool
is_marked b x = x.turn && is_empty b x.owed
