-- What a slip that meets its rules shows of its graph: a keep slip has falling measures, and a break slip is a marked lasso, whose
-- letters are a word.
use Rattle.std.proofs.Common.{◌≡◌, ℕ, ◌<◌, true, List, length, refl, sym, subst, arith}
use Rattle.std.specs.Prelude.{slice_index}
use Rattle.std.proofs.lemmas.List.{get_or-map, length-map}
use Rattle.graph.specs.Graphs.{Graph}
use Rattle.graph.specs.Witnesses.{FallingMeasures, MarkedLasso}
use Rattle.lasso.specs.Positions.{after}
use Rattle.lasso.specs.Words.{IsWord}
use Rattle.slip.specs.declared.kinds.BreakRule.TheVariants as breaks
use Rattle.slip.specs.declared.kinds.KeepRule.TheVariants as keeps
use Rattle.slip.specs.declared.kinds.Kind.TheVariants.{Keep, Break}
use Rattle.slip.specs.declared.kinds.Rule.{Rule}
use Rattle.slip.specs.declared.kinds.Rule.TheVariants as of
use Rattle.records.specs.declared.record.Record.{Record}
use Rattle.records.specs.Tables.{blank, node_at, letter_at, measure_at}
use Rattle.slip.specs.Rules.{HoldsFor}
use Rattle.slip.specs.Shapes.{Shaped}
use Rattle.slip.specs.Measured.{letters}

pub keep_falls : (g : Graph) (stem : ℕ) (rs : List Record) → ((p : ℕ) (r : Rule) → HoldsFor g Keep stem rs p r)
    → FallingMeasures g (node_at rs) (measure_at rs) (length rs)
keep_falls g stem rs meets =
    record {
      starts = meets (length rs) (of.Keep keeps.Starts) refl;
      edges = λ i l w h e. meets i (of.Keep keeps.Next) h l w e;
    }

letter_same : (rs : List Record) (k : ℕ) → k < length rs → slice_index (letters rs) k ≡ letter_at rs k
letter_same rs k h = get_or-map (λ (r : Record). r.letter) rs k blank 0 h

module _ (g : Graph) (stem : ℕ) (rs : List Record) (shaped : Shaped Break (length rs) stem)
    (meets : (p : ℕ) (r : Rule) → HoldsFor g Break stem rs p r) where
  lasso_by : (letter : ℕ → ℕ) → ((k : ℕ) → k < length rs → letter k ≡ letter_at rs k)
      → MarkedLasso g (node_at rs) letter (length rs) stem
  lasso_by letter same =
      record {
        loops = shaped.placed;
        starts = meets 0 (of.Break breaks.Start) refl;
        steps =
            λ k h.
            subst (λ l. g.edge (node_at rs k) l (node_at rs (after (length rs) stem k)) ≡ true) (sym (same k h))
            (meets k (of.Break breaks.Next) h);
        passes = meets (length rs) (of.Break breaks.Mark) refl;
      }

  same_length : length (letters rs) ≡ length rs
  same_length = length-map rs (λ (r : Record). r.letter)

  -- its letters are the word of a marked lasso
  pub break_lasso : MarkedLasso g (node_at rs) (slice_index (letters rs)) (length (letters rs)) stem
  break_lasso =
      subst (λ n. MarkedLasso g (node_at rs) (slice_index (letters rs)) n stem) (sym same_length)
      (lasso_by (slice_index (letters rs)) (letter_same rs))

  pub break_word : IsWord g.letters (letters rs) stem
  break_word =
      record {
        lasso =
            record {
              some_elements = omega (arith, same_length, shaped.placed);
              few_elements = omega (arith, same_length, shaped.few);
              loops = omega (arith, same_length, shaped.placed);
            };
        known =
            λ k h.
            let inside : k < length rs = omega (arith, same_length) in
            omega (arith, letter_same rs k inside, (meets k (of.Break breaks.Node) inside).1);
      }
