-- The part of the table that is the loop of a break slip.
use Rattle.std.proofs.Common.{◌≡◌, ◌∙◌, ℕ, ◌+◌, ◌-◌, ◌<◌, List, ap, drop, sym, take, arith}
use Rattle.std.proofs.lemmas.List.{drop-take}
use Rattle.bench.specs.Slips.{handed_for}
use Rattle.slip.specs.declared.kinds.Kind.{Kind}
use Rattle.slip.specs.declared.kinds.Kind.TheVariants.{Keep, Break}
use Rattle.records.specs.declared.record.Record.{Record}
use Rattle.slip.specs.Shapes.{stems}

pub loop_part : (kind : Kind) (count stem : ℕ) (table : List Record) → kind ≡ Break → stem < stems kind count
    → take (count - stem) (drop stem table) ≡ handed_for kind stem (take count table)
loop_part Keep count stem table is placed = absurd (cc)
loop_part Break count stem table is placed =
    let whole : stem + (count - stem) ≡ count = omega (arith, placed) in
    sym (drop-take stem (count - stem) table) ∙ ap (λ n. drop stem (take n table)) whole
