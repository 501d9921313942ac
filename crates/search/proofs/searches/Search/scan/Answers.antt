use Rattle.std.proofs.Common.{◌≡◌, ◌∙◌, sym, subst}
use Rattle.search.specs.Progress.{progress}
use Rattle.search.specs.Changes.{Quiet}
use Rattle.graph.specs.Implicit.{graph_of}
use Rattle.search.specs.Searches.{Searching}
use Rattle.search.proofs.Moves.{quiet_join}
use Rattle.search.proofs.searches.Search.scan.Goals as goal

pub loop-self-preserved : goal.loop-self-preserved
loop-self-preserved g c =
    let m = graph_of g.M.Map.graph c.args.graph.now in
    let s = c.args.self.now in
    let mid = c.loop-self.self in
    let q = c.look.new.self in
    let (same, further, searching, quiet) = c.loop-self.invariant in
    let (searching', quiet', less) = c.in_default.ensures.looked in
    let table = c.in_default.ensures.same_table in
    let is = c.in_default.ensures.progress in (
      record { reference = table.reference ∙ same.reference; len = table.len ∙ same.len },
      subst (λ y. (progress q) ≡ record { size = y.size; top = y.top; cur = y.cur; from = q.from; found = y.found }) further is,
      subst (λ y. Searching m y.size y.top y.cur q.from q.table.work.now) (sym is) searching',
      subst (λ y. Quiet y.cur s.table.work.now q.table.work.now) (sym is) (quiet_join mid.cur s.table.work.now mid.table.work.now q.table.work.now quiet quiet'),
    )
