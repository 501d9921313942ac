-- What the parts of judge promise each other.
use Rattle.std.specs.Prelude.{◌≡◌, ℕ, ◌<◌, List, length, Some, None, Option, Result, MatchResult}
use Rattle.bench.specs.Calls.{Drafts}
use Rattle.bench.specs.Slips.{form_of, over}
use Rattle.bench.specs.Verdicts.{Decides}
use Rattle.bench.specs.declared.states.Form.{Form}
use Rattle.bench.specs.declared.verdicts.Verdict.{Verdict}
use Rattle.chart.specs.Automata.{Automaton}
use Rattle.bench.specs.declared.faults.BenchFault.{BenchFault}
use Rattle.bench.specs.declared.faults.BenchFault.TheVariants.{Search}
use Rattle.records.specs.declared.faults.SearchFault.TheVariants.{Full}
use Rattle.graph.specs.Graphs.{Graph}
use Rattle.graph.specs.Walks.{More}
use Rattle.rank.specs.Ranked.{ranked_graph}
use Rattle.slip.specs.declared.kinds.Kind.{Kind}
use Rattle.slip.specs.declared.kinds.Kind.TheVariants.{Keep, Break}
use Rattle.records.specs.Tables.{node_at, letter_at, measure_at}
use Rattle.records.specs.declared.record.Record.{Record}
use Rattle.search.specs.declared.surveys.Findings.{Findings}
use Rattle.slip.specs.Certificates.{Certificate}

-- the letters are 0, and all else is as it was
pub record Cleared (was now : List Record) : Type 0 where
  pub same_length : length now ≡ length was
  pub nodes : (i : ℕ) → node_at now i ≡ node_at was i
  pub measures : (i : ℕ) → measure_at now i ≡ measure_at was i
  pub letters : (i : ℕ) → i < length now → letter_at now i ≡ 0

-- a slip for the verdict stands in the first records of the table, and the others are as they were
pub record Wrote (g : Graph) (room : ℕ) (v : Verdict) (was table : List Record) (f : Form) : Type 0 where
  pub slip : Certificate
  pub drafts : Drafts g room v slip
  pub form : f ≡ form_of slip
  pub changed : table ≡ over slip.records was

-- the kind that a search of the ranked graph tells: its witness is a reachable marked node on a cycle
abbrev pub kind_of : Option ℕ → Kind
kind_of None = Keep
kind_of (Some v) = Break

abbrev pub verdict_of : Findings → Verdict
verdict_of found = record { kind = kind_of found.witness; nodes = found.count }

-- more nodes can be reached than there is room for
abbrev pub Overrun : Graph → ℕ → BenchFault → Type 0
Overrun g room (Search Full) = More g room
Overrun g room _ = ⊥

module _ (a b : Automaton) (room : ℕ) (was table : List Record) where
  pub record Searched (v : Verdict) (f : Form) : Type 0 where
    pub decides : Decides a b room v
    pub wrote : Wrote (ranked_graph a b) room v was table f

  abbrev pub SearchRefused : BenchFault → Type 0
  SearchRefused e = Overrun (ranked_graph a b) room e × (table ≡ was)

  abbrev pub SearchTells : Result (Verdict × Form) BenchFault → Type 0
  SearchTells r = MatchResult r (λ found. Searched found.0 found.1) SearchRefused
