use Rattle.std.proofs.Common.{◌≡◌, ℕ, ◌-◌, ◌<◌, true, List, length, take, drop, Decides, subst, arith, length-drop}
use Rattle.std.proofs.lemmas.List.{take_all}
use Rattle.records.specs.declared.record.Record.{Record}
use Rattle.records.specs.Tables.{node_at}
use Rattle.graph.specs.Implicit.{graph_of}
use Rattle.slip.proofs.Sweeps.{marked_behind}
use Rattle.slip.proofs.inspection.Inspection.has_mark_from.Goals as goal

pub returns : goal.returns
returns g c =
    let m = graph_of g.M.Map.graph c.args.self.now.graph in
    let rs : List Record = c.args.self.now.slip.records.now in
    let p = c.args.place in
    let Found : List Record → Type 0 = λ part. (k : ℕ) × (k < length part) × (m.marked (node_at part k) ≡ true) in
    let whole : take (length rs - p) (drop p rs) ≡ drop p rs =
    take_all (length rs - p) (drop p rs) (omega (arith, length-drop p rs)) in
    marked_behind m rs p c.has_mark.result
    (subst (λ part. Decides c.has_mark.result (Found part)) whole c.has_mark.ensures)
