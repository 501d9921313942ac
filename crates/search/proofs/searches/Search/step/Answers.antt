use Rattle.graph.specs.Implicit.{graph_of}
use Rattle.search.specs.Progress.{progress}
use Rattle.search.proofs.Stepping.{explored_scanned, step_finished, step_new}
use Rattle.search.proofs.searches.Search.step.Goals as goal

pub finish-requires : goal.finish-requires
finish-requires g c =
    let m = graph_of g.M.Map.graph c.args.graph.now in
    let s = c.args.self.now in
    let mid = c.scan.new.self in
    let (quiet, (x, q), explored) = c.in-None.ensures.scanned in
    explored_scanned m (progress s) (progress mid) s.table.work.now mid.table.work.now c.requires.going c.requires.some c.scan.ensures.progress c.scan.ensures.same_table.len quiet x q explored

pub returns-in-Some-clause-stepped : goal.returns-in-Some-clause-stepped
returns-in-Some-clause-stepped g c =
    let m = graph_of g.M.Map.graph c.args.graph.now in
    let s = c.args.self.now in
    let mid = c.scan.new.self in
    let work = c.enter.new.self in
    let (quiet, (x, q, fresh)) = c.in-Some.ensures.scanned in
    step_new m (progress s) (progress mid) s.table.work.now mid.table.work.now c.requires.going c.requires.some c.scan.ensures.progress c.scan.ensures.same_table.len quiet
    x c.in-Some.next s.few q fresh work.table.work.now (progress work) c.enter.result c.enter.ensures.entered

pub returns-in-None-clause-stepped : goal.returns-in-None-clause-stepped
returns-in-None-clause-stepped g c =
    let m = graph_of g.M.Map.graph c.args.graph.now in
    let s = c.args.self.now in
    let mid = c.scan.new.self in
    let work = c.finish.new.self in
    let (quiet, rest, explored) = c.in-None.ensures.scanned in
    step_finished m (progress s) (progress mid) s.table.work.now mid.table.work.now c.requires.going c.requires.some c.scan.ensures.progress c.scan.ensures.same_table.len quiet
    work.table.work.now (progress work) c.finish.ensures.stepped
