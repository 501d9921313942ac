-- What a slip over the ranked graph of a duty and a rule shows of them.
use Rattle.std.specs.Prelude.{ℕ, List}
use Rattle.chart.specs.Automata.{Automaton}
use Rattle.lasso.specs.Words.{IsWord}
use Rattle.rank.specs.Containment.{Included, TakenAlone}
use Rattle.records.specs.declared.record.Record.{Record}
use Rattle.slip.specs.Certificates.{Certificate}
use Rattle.slip.specs.Measured.{letters}
use Rattle.slip.specs.declared.kinds.Kind.{Kind}
use Rattle.slip.specs.declared.kinds.Kind.TheVariants.{Keep, Break}

-- Keep: the rule takes every repeating word that the duty takes. Break: the letters of the records are a word, repeating from
-- the loop place on, that the duty takes and the rule does not.
abbrev pub ShowsFor : Automaton → Automaton → Kind → ℕ → List Record → Type 0
ShowsFor a b Keep stem rs = Included a b
ShowsFor a b Break stem rs = IsWord a.letters (letters rs) stem × TakenAlone a b (letters rs) stem

abbrev pub Shows : Automaton → Automaton → Certificate → Type 0
Shows a b c = ShowsFor a b c.kind c.stem c.records
