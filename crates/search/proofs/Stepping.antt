-- A step begins by looking at edges, which changes the current place's record alone.
use Rattle.std.proofs.Common.{◌≡◌, ℕ, ◌<◌, ◌≤◌, List, length, Ok, Err, Result, sym, subst, arith, MatchResult}
use Rattle.records.specs.declared.faults.SearchFault.{SearchFault}
use Rattle.records.specs.declared.faults.SearchFault.TheVariants.{Table, Full}
use Rattle.graph.specs.Graphs.{Graph}
use Rattle.graph.specs.Walks.{More}
use Rattle.records.specs.declared.record.Record.{Record}
use Rattle.search.specs.Progress.{Progress}
use Rattle.search.specs.Changes.{Quiet}
use Rattle.search.specs.Searches.{Searching, Explored, Going, Stepped, Fresh, Entered, Crowded, TooMany, IsFurther}
use Rattle.records.specs.Tables.{node_at, letter_at, measure_at}
use Rattle.search.specs.Trees.{Done}
use Rattle.search.proofs.Entering.{step_entered, step_crowded}
use Rattle.search.proofs.Finished.{done_quiet, keeps_nodes}

module _ (g : Graph) (p p' : Progress) (was mid : List Record) (going : Going g p was) (some : 0 < p.size)
    (further : IsFurther p p') (len : length mid ≡ length was) (quiet : Quiet p.cur was mid) where
  done_scanned : Done g p.top (length mid) (node_at mid) (measure_at mid) p.found
  done_scanned =
      let q = going.busy some in
      done_quiet g p.cur p.top p.found was mid (omega (arith, q.tree.inside, q.held.stack)) len quiet going.done

  pub explored_scanned : (x : ℕ) → Searching g p.size p.top p.cur x mid → g.letters ≤ letter_at mid p.cur
      → Explored g p'.size p'.top p'.cur p'.found mid
  explored_scanned x q explored =
      subst (λ y. Explored g y.size y.top y.cur y.found mid) (sym further)
      (record { from = x; going = q; done = done_scanned; explored = explored })

  after_scan : (work : List Record) (q : Progress) → Stepped g p mid work q → Stepped g p was work q
  after_scan work q s =
      record { going = s.going; keeps = λ v h. s.keeps v (keeps_nodes p.size p.top was mid len quiet.nodes v h); less = s.less }

  pub step_finished : (work : List Record) (q : Progress) → Stepped g p' mid work q → Stepped g p was work q
  step_finished work q s =
      let t = subst (λ y. Stepped g y mid work q) further s in
      after_scan work q (record { going = t.going; keeps = t.keeps; less = t.less })

  module _ (x v : ℕ) (few : length was ≤ 65536) (here : Searching g p.size p.top p.cur x mid) (fresh : Fresh g p.size p.top p.cur x mid v) where
    pub step_new : (work : List Record) (q : Progress) (r : Result (Unit {0}) SearchFault)
        → MatchResult r (λ _. Entered p' v mid work q) (Crowded p') → MatchResult r (λ _. Stepped g p was work q) (TooMany g (length was))
    step_new work q (Ok _) entered =
        after_scan work q
        (step_entered g p x v mid work q (omega arith) here done_scanned fresh (subst (λ y. Entered y v mid work q) further entered))
    step_new work q (Err Full) crowded =
        subst (λ n. More g n) len (step_crowded g p x v mid here fresh (subst (λ y. y.size ≡ y.top) further crowded))
    step_new work q (Err Table) never = never
