use Rattle.std.proofs.Common.{◌≡◌, ◌-◌, ◌≤◌, List, length, take, drop, true, false, ap, rules, tests, arith, length-drop}
use Rattle.std.proofs.lemmas.Iterator.{first_from_find, YieldsList-from_slice, YieldsList-from_map}
use Rattle.std.proofs.lemmas.List.{length-take-le}
use Rattle.records.specs.declared.record.Record.{Record}
use Rattle.graph.specs.Implicit.{graph_of}
use Rattle.records.proofs.Parts.{get_or-part}
use Rattle.search.proofs.Parts.{marked_in_part}
use Rattle.search.proofs.searches.Search.first_marked.Goals as goal

pub returns : goal.returns
returns g c =
    let m = graph_of g.M.Map.graph c.args.graph.now in
    let s = c.args.self.now in
    let part : List Record = take (s.table.size - s.cur) (drop s.cur s.table.work.now) in
    let inside : s.table.size - s.cur ≤ length (drop s.cur s.table.work.now) = omega (arith, length-drop s.cur s.table.work.now, s.table.stack, s.table.table) in
    marked_in_part m s.cur s.table.size s.table.work.now part (length-take-le (s.table.size - s.cur) (drop s.cur s.table.work.now) inside)
    (λ i h. ap (λ r. r.node) (get_or-part s.cur s.table.size i s.table.work.now h)) c.find.result
    (first_from_find _ _ c.find.result (λ v. m.marked v ≡ true) (λ v. m.marked v ≡ false) c.find.ensures.ran
    (YieldsList-from_map {s = c.map.result} _ (λ (r : Record). r.node) (YieldsList-from_slice {A = Record} part cc) c.map.ensures.closure (λ x r q k. search rules))
    (λ x q k. search (rules, tests)) (λ x q k. search (rules, tests)))
