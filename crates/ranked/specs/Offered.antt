-- The choices that tell the starts, a node itself, and its successors: which ranks pass, and which states owe.
use Rattle.std.specs.Prelude.{ℕ, Bool, true, false, ◌||◌, Option, Some, None, ◌==◌, nat_lt}
use Rattle.chart.specs.Automata.{Automaton}
use Rattle.rank.specs.Nodes.{Node}
use Rattle.rank.specs.Rules.{follows, is_empty, is_first_rank, is_next_rank, next_turn}
use Rattle.ranked.specs.declared.choices.Choices.{Choices}
use Rattle.ranked.specs.Offers.{Offers}

abbrev pub StartsOffered : Automaton → Automaton → Choices → Type 0
StartsOffered a b = Offers b (is_first_rank b) (λ q. false) false a.start

-- states beyond the rule's have no rank
abbrev pub is_within : Automaton → ℕ → Option ℕ → Bool
is_within b q None = true
is_within b q (Some r) = nat_lt q b.states

-- the node with these parts
abbrev pub NodeOffered : Automaton → Node → Choices → Type 0
NodeOffered b x = Offers b (is_within b) x.owed x.turn (λ q. x.duty == q)

abbrev pub NextOffered : Automaton → Automaton → Node → ℕ → Choices → Type 0
NextOffered a b x l =
    Offers b (is_next_rank b x.rank l) (λ q. is_empty b x.owed || follows b x.owed l q) (next_turn a b x) (a.step x.duty l)
