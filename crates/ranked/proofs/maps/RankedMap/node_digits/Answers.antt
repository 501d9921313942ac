use Rattle.std.proofs.Common.{◌≡◌, suc, ◌+◌, ◌*◌, ap, ◌∙◌, arith}
use Rattle.ranked.specs.Following.{is_upto}
use Rattle.ranked.specs.Maps.{rule_of}
use Rattle.ranked.proofs.Ranking.{node_of_other, node_of_state}
use Rattle.ranked.proofs.maps.RankedMap.node_digits.Goals as goal

pub returns-then-q-self : goal.returns-then-q-self
returns-then-q-self c =
    node_of_state (rule_of c.args.self.now) c.args.q (omega arith) _ (let e : 2 * c.args.self.now.rule.states + 1 ≡ suc (2 * c.args.self.now.rule.states) = omega arith in e) c.digits_upto.result
    (λ d h. c.digits_upto.ensures d h ∙ ap (λ t. is_upto (2 * c.args.self.now.rule.states + 1) t d) c.contains.ensures)

pub returns-else-q-self : goal.returns-else-q-self
returns-else-q-self c = node_of_other (rule_of c.args.self.now) c.args.q (omega arith)
