-- What the two questions on a chart's words answer, and when they are refused.
use Rattle.std.specs.Prelude.{◌≡◌, ℕ, ◌<◌, Bool, true, false, List, length}
use Rattle.chart.specs.Automata.{Automaton}
use Rattle.member.specs.declared.faults.MemberFault.{MemberFault}
use Rattle.member.specs.declared.faults.MemberFault.TheVariants as faults
use Rattle.records.specs.declared.faults.SearchFault.TheVariants.{Table, Full}
use Rattle.graph.specs.Walks.{More}
use Rattle.lasso.specs.Refused.{WordRefused}
use Rattle.lasso.specs.Words.{letter, IsWord, Takes, Accepts}
use Rattle.records.specs.declared.record.Record.{Record}
use Rattle.records.specs.Sizes.{Allowed}
use Rattle.member.specs.Maps.{chart_graph, word_graph}

-- the automaton takes no word, of any length, and accepts no endless word, repeating or not
pub record TakesNone (m : Automaton) : Type 0 where
  pub word : (word : List ℕ) (stem : ℕ) → stem < length word → Takes m word stem → ⊥
  pub endless : (word : ℕ → ℕ) → Accepts m word → ⊥

-- it takes this word, which is one for it
pub record TakesSome (m : Automaton) : Type 0 where
  pub word : List ℕ
  pub stem : ℕ
  pub good : IsWord m.letters word stem
  pub takes : Takes m word stem
  pub accepts : Accepts m (letter word stem)

abbrev pub IsEmpty : Automaton → Bool → Type 0
IsEmpty m true = TakesNone m
IsEmpty m false = TakesSome m

-- the answer, over a work table of n records, which are enough for the reachable states
pub record Empties (m : Automaton) (n : ℕ) (r : Bool) : Type 0 where
  pub allowed : Allowed n
  pub room : More (chart_graph m) n → ⊥
  pub told : IsEmpty m r

-- to take a word is to accept it as an endless word
abbrev pub IsMember : Automaton → List ℕ → ℕ → Bool → Type 0
IsMember m word stem true = Takes m word stem × Accepts m (letter word stem)
IsMember m word stem false = (Takes m word stem → ⊥) × (Accepts m (letter word stem) → ⊥)

pub record Members (m : Automaton) (word : List ℕ) (stem n : ℕ) (r : Bool) : Type 0 where
  pub allowed : Allowed n
  pub good : IsWord m.letters word stem
  pub room : More (word_graph m word stem) n → ⊥
  pub told : IsMember m word stem r

-- Refused: 7 comes before 8, and 8 before 13; but for 13 the table is as it was.
abbrev pub MemberRefused : Automaton → List ℕ → ℕ → List Record → List Record → MemberFault → Type 0
MemberRefused m word stem was work (faults.Search Table) = (Allowed (length was) → ⊥) × (work ≡ was)
MemberRefused m word stem was work (faults.Word e) =
    Allowed (length was) × WordRefused m.letters word stem e × (work ≡ was)
MemberRefused m word stem was work (faults.Search Full) =
    Allowed (length was) × IsWord m.letters word stem × More (word_graph m word stem) (length was)
