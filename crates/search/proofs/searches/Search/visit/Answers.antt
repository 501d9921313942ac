use Rattle.std.proofs.Common.{length, rules}
use Rattle.search.specs.Progress.{progress}
use Rattle.std.proofs.lemmas.Bool.{both_ways}
use Rattle.graph.specs.Implicit.{graph_of}
use Rattle.search.specs.Searches.{TooMany}
use Rattle.search.proofs.Visiting.{not_done, begin_start, begin_crowded}
use Rattle.search.proofs.searches.Search.visit.Goals as goal

pub returns-in_err-enter-clause-visited : goal.returns-in_err-enter-clause-visited
returns-in_err-enter-clause-visited g c =
    let m = graph_of g.M.Map.graph c.args.graph.now in
    let s = c.args.self.now in
    let new = not_done s.table.size s.table.top c.args.start s.table.work.now c.requires.empty (λ p. both_ways _ c.if-is_done.false (c.is_done.ensures.1 p)) in
    let refused : TooMany m (length s.table.work.now) c.in_err-enter.field-0.0 =
    begin_crowded m (progress s) c.args.start s.table.work.now c.in_err-enter.field-0.0 c.requires.going c.requires.start new c.in_err-enter.ensures.entered in
    search rules

pub explore-requires : goal.explore-requires
explore-requires g c =
    let m = graph_of g.M.Map.graph c.args.graph.now in
    let s = c.args.self.now in
    let new = not_done s.table.size s.table.top c.args.start s.table.work.now c.requires.empty (λ p. both_ways _ c.if-is_done.false (c.is_done.ensures.1 p)) in
    begin_start m (progress s) c.args.start s.table.work.now c.enter.new.self.table.work.now (progress c.enter.new.self) s.few c.requires.going c.requires.empty c.requires.start new c.in_ok-enter.ensures.entered
