use Rattle.std.proofs.Common.{sym, subst}
use Rattle.records.specs.WorkTables.{Risen}
use Rattle.graph.specs.Implicit.{graph_of}
use Rattle.search.specs.Weights.{Retired}
use Rattle.search.proofs.Retiring.{retired_worth}
use Rattle.search.proofs.searches.Search.retire.Goals as goal

pub returns-clause-retired : goal.returns-clause-retired
returns-clause-retired g c =
    let m = graph_of g.M.Map.graph c.args.graph.now in
    let s = c.args.self.now in
    let work = c.move_up.new.self.work.now in
    subst (λ f. Retired m s.table.size s.table.top s.cur s.table.work.now work f) (sym c.err-self.ensures.value)
    (retired_worth m s.table.size s.table.top s.cur s.found s.table.work.now work c.assess-worth.result
    c.move_up.ensures.same_table.len c.requires c.assess-worth.ensures
    (subst (λ x. Risen s.table.size s.table.top s.cur x s.table.work.now work) c.unwrap_or.ensures c.move_up.ensures.risen))
