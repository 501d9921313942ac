-- A slip over the ranked graph that meets its rules shows what its kind says.
use Rattle.std.proofs.Common.{ℕ, List, length}
use Rattle.bench.specs.Showing.{Shows, ShowsFor}
use Rattle.chart.specs.Automata.{Automaton}
use Rattle.rank.specs.Containment.{Charts}
use Rattle.rank.specs.Ranked.{ranked_graph}
use Rattle.rank.proofs.Deciding.{lassos_tell, measures_tell}
use Rattle.records.specs.Tables.{node_at, measure_at}
use Rattle.records.specs.declared.record.Record.{Record}
use Rattle.slip.proofs.Telling.{break_lasso, break_word, keep_falls}
use Rattle.slip.specs.Certificates.{Certificate}
use Rattle.slip.specs.Measured.{letters}
use Rattle.slip.specs.Rules.{HoldsFor, Meets}
use Rattle.slip.specs.Shapes.{Shaped}
use Rattle.slip.specs.declared.kinds.Kind.{Kind}
use Rattle.slip.specs.declared.kinds.Kind.TheVariants.{Keep, Break}
use Rattle.slip.specs.declared.kinds.Rule.{Rule}

module _ (a b : Automaton) (charts : Charts a b) where
  meets_shows_for : (kind : Kind) (stem : ℕ) (rs : List Record) → Shaped kind (length rs) stem
      → ((p : ℕ) (r : Rule) → HoldsFor (ranked_graph a b) kind stem rs p r) → ShowsFor a b kind stem rs
  meets_shows_for Keep stem rs shaped meets =
      (measures_tell a b charts (node_at rs) (measure_at rs) (length rs) (keep_falls (ranked_graph a b) stem rs meets)).1
  meets_shows_for Break stem rs shaped meets = (
    break_word (ranked_graph a b) stem rs shaped meets,
    lassos_tell a b charts (node_at rs) (letters rs) stem (break_lasso (ranked_graph a b) stem rs shaped meets),
  )

pub meets_shows : (a b : Automaton) → Charts a b → (c : Certificate) → Shaped c.kind (length c.records) c.stem
    → Meets (ranked_graph a b) c → Shows a b c
meets_shows a b charts c shaped meets = meets_shows_for a b charts c.kind c.stem c.records shaped meets
