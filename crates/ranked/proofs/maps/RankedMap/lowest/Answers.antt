use Rattle.std.proofs.Common.{◌≡◌, ℕ, ◌+◌, ◌<◌, ◌≤◌, ◌⊎◌, ltb, subst, sym}
use Rattle.std.proofs.lemmas.Bool.{and_parts}
use Rattle.ranked.specs.Digits.{digit}
use Rattle.ranked.specs.Following.{LowestBelow}
use Rattle.ranked.specs.Maps.{rule_of}
use Rattle.ranked.proofs.Ranking.{lowest_with, lowest_without}
use Rattle.ranked.proofs.maps.RankedMap.lowest.Goals as goal
use Rattle.ranked.proofs.maps.RankedMap.lowest.Goals.{then-leads, else-leads}

pub loop-p-preserved : goal.loop-p-preserved
loop-p-preserved c =
    let b = rule_of c.args.self.now in
    let ranks : ℕ = c.args.ranks in
    let p : ℕ = c.loop-p.p in
    let Low = λ (r : ℕ). LowestBelow (p + 1) b ranks c.args.letter c.args.q r in
    elim c.if-leads.branch [
      | then-leads w ↦ subst Low (sym w.least-is)
          (lowest_with p b ranks c.args.letter c.args.q c.loop-p.least c.loop-p.invariant w.lower-least.result
          (and_parts (ltb 0 (digit ranks p)) (b.step p c.args.letter c.args.q) (sym w.if-leads.ensures)).1 w.lower-least.ensures.some
          (subst (λ x. w.lower-least.result ≤ x) w.digit.ensures w.lower-least.ensures.below) w.lower-least.ensures.before
          (subst (λ x. (w.lower-least.result ≡ x) ⊎ ((0 < c.loop-p.least) × (w.lower-least.result ≡ c.loop-p.least))) w.digit.ensures w.lower-least.ensures.one))
      | else-leads w ↦ subst Low (sym w.least-is)
          (lowest_without p b ranks c.args.letter c.args.q c.loop-p.least c.loop-p.invariant (sym w.if-leads.ensures))
    ]
