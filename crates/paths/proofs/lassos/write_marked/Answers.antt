use Rattle.std.proofs.Common.{length, take, drop, ◌-◌, Some, None, rules}
use Rattle.graph.specs.Implicit.{graph_of}
use Rattle.paths.proofs.Joining.{stem_told, turn_told, turn_stopped, turn_none, turn_refused, written}
use Rattle.paths.proofs.lassos.write_marked.Goals as goal

pub returns-in_err-cycle : goal.returns-in_err-cycle
returns-in_err-cycle g c =
    let i = c.args.graph.now in
    let v = c.args.node in
    let n = length c.args.work.now in
    let was = c.args.table.now in
    let mid = c.write_path.new.table in
    let part = c.write_path-2.new.table in
    let a = c.in-Some.stem in
    let e = c.in_err-cycle.field-0.0 in
    let query = c.to_node-query.result in
    let m = graph_of g.M.Map.graph i in
    let stem = stem_told g.M.Map.graph i v n query c.to_node-query.ensures was mid c.in_ok-stem.field-0 a c.in-Some.is c.in_ok-stem.ensures in
    let stopped = turn_stopped g.M.Map.graph i v n query c.to_node-query.ensures c.back.result c.back.ensures
    (length c.write_path.new.work) c.write_path.auto.work (take (length mid - a) (drop a mid)) part e c.in_err-cycle.ensures in
    let refused = turn_refused m v a c.args.work.now c.write_path-2.new.work was mid part e c.requires.sized c.requires.marked stem stopped in
    search rules

pub returns-in_default-2 : goal.returns-in_default-2
returns-in_default-2 g c =
    let i = c.args.graph.now in
    let v = c.args.node in
    let n = length c.args.work.now in
    let was = c.args.table.now in
    let mid = c.write_path.new.table in
    let part = c.write_path-2.new.table in
    let a = c.in-Some.stem in
    let query = c.to_node-query.result in
    let m = graph_of g.M.Map.graph i in
    let stem = stem_told g.M.Map.graph i v n query c.to_node-query.ensures was mid c.in_ok-stem.field-0 a c.in-Some.is c.in_ok-stem.ensures in
    let told = turn_told g.M.Map.graph i v n query c.to_node-query.ensures c.back.result c.back.ensures
    (length c.write_path.new.work) c.write_path.auto.work (take (length mid - a) (drop a mid)) part c.in_ok-cycle.field-0 None c.in_default-2.is c.in_ok-cycle.ensures in
    turn_none m v n a was mid part c.requires.sized stem told

pub returns : goal.returns
returns g c =
    let i = c.args.graph.now in
    let v = c.args.node in
    let n = length c.args.work.now in
    let was = c.args.table.now in
    let mid = c.write_path.new.table in
    let part = c.write_path-2.new.table in
    let a = c.in-Some.stem in
    let b = c.in-Some-2.cycle in
    let query = c.to_node-query.result in
    let m = graph_of g.M.Map.graph i in
    let bounds = g.M.Map.bounds i.map.now i.word.elements.now i.word.stem in
    let stem = stem_told g.M.Map.graph i v n query c.to_node-query.ensures was mid c.in_ok-stem.field-0 a c.in-Some.is c.in_ok-stem.ensures in
    let turn = turn_told g.M.Map.graph i v n query c.to_node-query.ensures c.back.result c.back.ensures
    (length c.write_path.new.work) c.write_path.auto.work (take (length mid - a) (drop a mid)) part c.in_ok-cycle.field-0 (Some b) c.in-Some-2.is
    c.in_ok-cycle.ensures in
    written m v n a b was mid part stem turn c.requires.marked c.requires.sized.twice bounds c.requires.sized c.new.result c.new.ensures
