-- The bytes of a refusal: a line of names, and a line of values.
use Rattle.std.specs.Prelude.{ℕ, List, [], ◌∷◌, ◌++◌, codes, decimal}
use Rattle.bench.specs.Refusals.{bench_refusal}
use Rattle.report.specs.declared.refusals.Refusal.{Refusal}
use Rattle.report.specs.declared.refusals.Side.{Side}
use Rattle.report.specs.declared.refusals.Side.TheVariants.{Duty, Rule, Bench}

abbrev pub side_text : Side → List ℕ
side_text Duty = codes "duty"
side_text Rule = codes "rule"
side_text Bench = codes "bench"

-- a line of three words, before the lines that follow it
abbrev pub line : List ℕ → List ℕ → List ℕ → List ℕ → List ℕ
line a b c rest = a ++ 32 ∷ (b ++ 32 ∷ (c ++ 10 ∷ rest))

abbrev pub refusal_text : Refusal → List ℕ
refusal_text r =
    line (codes "refused") (codes "at") (codes "place")
    (line (decimal (bench_refusal r.fault).number) (side_text r.side) (decimal (bench_refusal r.fault).place) [])
