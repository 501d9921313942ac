use Rattle.std.proofs.Common.{ap, ◌∙◌, arith}
use Rattle.rank.proofs.Numbers.{numbers_correspond}
use Rattle.rank.specs.Layout.{parts}
use Rattle.ranked.specs.Bounds.{charts_of}
use Rattle.ranked.specs.Following.{is_upto}
use Rattle.ranked.specs.Maps.{duty_of, rule_of}
use Rattle.ranked.proofs.Ranking.{lowest_none, next_of}
use Rattle.ranked.proofs.Upto.{bit_zero}
use Rattle.ranked.proofs.maps.RankedMap.next_digits.Goals as goal

pub returns : goal.returns
returns c =
    let m = c.args.self.now in
    λ v reads e d h. let n = ((numbers_correspond (duty_of m) (rule_of m) (charts_of m)).of_number v e).0 in
    c.digits_upto.ensures d h
    ∙ (ap (λ t. is_upto c.lowest.result t d) c.contains.ensures
    ∙ next_of (rule_of m) m.few_states c.args.node.ranks c.args.letter c.args.q c.lowest.result (parts v).rank reads.rank
    (λ p s is. let k = n.ranks p s is in (k.0, k.1)) c.lowest.ensures.told d)

pub returns-then-q-self : goal.returns-then-q-self
returns-then-q-self c =
    let m = c.args.self.now in
    λ v reads e d h. let n = ((numbers_correspond (duty_of m) (rule_of m) (charts_of m)).of_number v e).0 in
    bit_zero d h
    ∙ next_of (rule_of m) m.few_states c.args.node.ranks c.args.letter c.args.q 0 (parts v).rank reads.rank
    (λ p s is. let k = n.ranks p s is in (k.0, k.1))
    (lowest_none (rule_of m) m.rule.limits c.args.node.ranks c.args.letter c.args.q (omega arith)) d
