-- The slip that judge writes where no marked node lies on a cycle.
use Rattle.std.proofs.Common.{◌≡◌, ◌∙◌, ℕ, ◌*◌, ◌<◌, ◌≤◌, ◌++◌, List, length, drop, take, None, ap, refl, subst, sym, arith}
use Rattle.std.proofs.Math.Seq.{take-append_seam}
use Rattle.std.proofs.lemmas.List.{get_or-take, length-take-le}
use Rattle.bench.specs.Drafting.{Cleared, Wrote}
use Rattle.graph.specs.Graphs.{Graph, Bounded}
use Rattle.graph.specs.Walks.{Measure, Reach}
use Rattle.slip.specs.declared.kinds.Kind.TheVariants.{Keep}
use Rattle.search.specs.Surveys.{Collected, Told}
use Rattle.records.specs.Tables.{blank, node_at, measure_at}
use Rattle.records.specs.declared.record.Record.{Record}
use Rattle.slip.specs.Measured.{Measured}
use Rattle.slip.proofs.Meeting.{measured_meets}

module _ (g : Graph) (room count : ℕ) (bounds : Bounded g) (work rs : List Record) (found : Collected g count work) (told : Told g count work None)
    (few : count ≤ 2 * room) (cleared : Cleared (take count work) rs) where
  len : length rs ≡ count
  len = cleared.same_length ∙ length-take-le count work found.fits

  node : (i : ℕ) → i < length rs → node_at rs i ≡ node_at work i
  node i h = cleared.nodes i ∙ ap (λ r. r.node) (get_or-take count work i blank (omega (arith, h, len)))

  measure : (i : ℕ) → i < length rs → measure_at rs i ≡ measure_at work i
  measure i h = cleared.measures i ∙ ap (λ r. r.measure) (get_or-take count work i blank (omega (arith, h, len)))

  measured : Measured g rs
  measured =
      record {
        apart =
            λ i k hi hk e.
            found.apart i k (omega (arith, hi, len)) (omega (arith, hk, len)) (sym (node i hi) ∙ (e ∙ node k hk));
        reached = λ i h. subst (Reach g) (sym (node i h)) (found.reached i (omega (arith, h, len)));
        whole =
            λ v r.
            let (i, lt, is) = found.whole v r in
            let h : i < length rs = omega (arith, lt, len) in (i, h, node i h ∙ is);
        letters = cleared.letters;
        measures =
            λ i h.
            subst (λ v. Measure g v (measure_at rs i)) (sym (node i h))
            (subst (Measure g (node_at work i)) (sym (measure i h)) (told.1 i (omega (arith, h, len))));
      }

  pub keep_wrote : (was copied : List Record) → copied ≡ take count (rs ++ drop count work)
      → Wrote g room (record { kind = Keep; nodes = count }) was (copied ++ drop count was) (record { kind = Keep; count = count; stem = 0 })
  keep_wrote was copied after =
      let same : copied ≡ rs = after ∙ (ap (λ n. take n (rs ++ drop count work)) (sym len) ∙ take-append_seam rs (drop count work)) in
      record {
        slip = record { kind = Keep; stem = 0; records = rs };
        drafts =
            record {
              kind = refl;
              fits = record { few = omega (arith, few, len); placed = omega arith };
              meets = measured_meets g bounds rs measured;
              measured = λ e. (len, measured);
            };
        form = ap (λ n. record { kind = Keep; count = n; stem = 0 }) (sym len);
        changed = ap (λ xs. xs ++ drop count was) same ∙ ap (λ n. rs ++ drop n was) (sym len);
      }
