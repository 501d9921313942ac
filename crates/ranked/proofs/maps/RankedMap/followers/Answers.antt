use Rattle.std.proofs.Common.{◌≡◌, ℕ, ◌&&◌, sym, ap, ◌∙◌, arith}
use Rattle.std.proofs.lemmas.Bool.{and_left}
use Rattle.numbers.specs.Bits.{bit}
use Rattle.numbers.specs.Below.{any_below}
use Rattle.ranked.specs.Maps.{rule_of}
use Rattle.ranked.proofs.Owing.{followers_with, followers_without}
use Rattle.ranked.proofs.maps.RankedMap.followers.Goals as goal
use Rattle.ranked.proofs.maps.RankedMap.followers.Goals.{then-contains, else-contains}

pub loop-p-preserved : goal.loop-p-preserved
loop-p-preserved c =
    let b = rule_of c.args.self.now in
    let p : ℕ = c.loop-p.p in
    let leads = λ (q k : ℕ). bit c.args.set k && b.step k c.args.letter q in
    elim c.if-contains.branch [
      | then-contains w ↦ λ q. ap (λ s. bit s q) w.followers-is
          ∙ followers_with (leads q) p c.loop-p.followers w.steps-followers.result q (c.loop-p.invariant q)
          (w.steps-followers.ensures q ∙ ap (λ t. t && b.step p c.args.letter q) w.if-contains.ensures)
      | else-contains w ↦ λ q. ap (λ s. bit s q) w.followers-is
          ∙ followers_without (leads q) p c.loop-p.followers q (c.loop-p.invariant q)
          (and_left (bit c.args.set p) (b.step p c.args.letter q) (sym w.if-contains.ensures))
    ]

pub returns : goal.returns
returns c =
    let b = rule_of c.args.self.now in
    let end : c.loop-p.p ≡ 6 = omega arith in
    λ q. c.loop-p.invariant q ∙ ap (λ n. any_below n (λ k. bit c.args.set k && b.step k c.args.letter q)) end
