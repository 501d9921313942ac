-- The bytes of a verdict: a line of names, and a line of values.
use Rattle.std.specs.Prelude.{ℕ, List, [], ◌∷◌, ◌++◌, codes, decimal}
use Rattle.bench.specs.declared.verdicts.Verdict.{Verdict}
use Rattle.slip.specs.Shown.{kind_text}

abbrev pub verdict_text : Verdict → List ℕ
verdict_text v = codes "verdict nodes" ++ 10 ∷ (kind_text v.kind ++ 32 ∷ (decimal v.nodes ++ 10 ∷ []))
