-- Records from a place on, and the nodes that they have.
use Rattle.std.proofs.Common.{◌≡◌, ℕ, ◌+◌, ◌-◌, ◌<◌, ◌≤◌, Bool, true, List, length, drop, get_or, Decides, sym, ap, ◌∙◌, subst, arith, length-drop}
use Rattle.std.proofs.lemmas.List.{get_or-drop}
use Rattle.graph.specs.Graphs.{Graph}
use Rattle.records.specs.declared.record.Record.{Record}
use Rattle.records.specs.Tables.{blank, node_at}

-- whether a record from a place on has a marked node
pub marked_behind : (g : Graph) (rs : List Record) (p : ℕ) (r : Bool)
    → Decides r ((k : ℕ) × (k < length (drop p rs)) × (g.marked (node_at (drop p rs) k) ≡ true))
    → Decides r ((k : ℕ) × (p ≤ k) × (k < length rs) × (g.marked (node_at rs k) ≡ true))
marked_behind g rs p r (found, told) = (
  λ e.
      let (k, lt, holds) = found e in
      let same = get_or-drop p rs k blank in
      (p + k, omega arith, omega (arith, length-drop p rs), subst (λ (x : Record). g.marked x.node ≡ true) same holds),
  λ (k, le, lt, holds).
      let back : p + (k - p) ≡ k = omega arith in
      let same = get_or-drop p rs (k - p) blank ∙ ap (λ i. get_or rs i blank) back in
      told (
        k - p,
        omega (arith, length-drop p rs),
        subst (λ (x : Record). g.marked x.node ≡ true) (sym same) holds,
      ),
)
