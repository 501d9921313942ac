-- What a verdict on a duty and a rule tells.
use Rattle.std.specs.Prelude.{◌≡◌, ℕ, ◌≤◌, ◌↔◌, List}
use Rattle.bench.specs.declared.verdicts.Verdict.{Verdict}
use Rattle.chart.specs.Automata.{Automaton}
use Rattle.graph.specs.Walks.{Count}
use Rattle.lasso.specs.Words.{IsWord}
use Rattle.rank.specs.Containment.{Included, Differs, TakenAlone}
use Rattle.rank.specs.Ranked.{ranked_graph}
use Rattle.slip.specs.declared.kinds.Kind.{Kind}
use Rattle.slip.specs.declared.kinds.Kind.TheVariants.{Keep, Break}

-- a word within the limits of words that the duty takes and the rule does not
pub record Forbidden (a b : Automaton) : Type 0 where
  pub word : List ℕ
  pub stem : ℕ
  pub good : IsWord a.letters word stem
  pub alone : TakenAlone a b word stem

-- what each kind tells
abbrev pub IsVerdict : Automaton → Automaton → Kind → Type 0
IsVerdict a b Break = Forbidden a b
IsVerdict a b Keep = Included a b

-- v is the verdict on the duty a and the rule b, for a room of so many nodes
pub record Decides (a b : Automaton) (room : ℕ) (v : Verdict) : Type 0 where
  pub count : Count (ranked_graph a b) v.nodes
  pub fits : v.nodes ≤ room
  -- break exactly if some repeating word of any length is taken by the duty and not by the rule, and keep exactly if none is
  pub breaks : (v.kind ≡ Break) ↔ Differs a b
  pub keeps : (v.kind ≡ Keep) ↔ Included a b
  -- then there is one within the limits of words
  pub word : v.kind ≡ Break → Forbidden a b
