use Rattle.std.proofs.Common.{Some, None, subst, arith}
use Rattle.graph.specs.Implicit.{graph_of}
use Rattle.numbers.specs.Least.{Least}
use Rattle.records.specs.declared.record.Record.{Record}
use Rattle.records.specs.Tables.{node_at, letter_at}
use Rattle.search.proofs.Moves.{changed_quiet, changed_letter, quiet_join, searching_turn, searching_met, met_quiet, met_letter, searching_resumed, resumed_quiet, left_turn, left_resumed}
use Rattle.search.proofs.searches.Search.look.Goals as goal

pub resume-self-requires : goal.resume-self-requires
resume-self-requires g c =
    let word = c.args.graph.now.word in
    let b = g.M.Map.bounds c.args.graph.now.map.now word.elements.now word.stem in
    let s = c.args.self.now in
    let same = met_letter s.table.size s.table.top s.cur c.in-Some.next s.table.work.now c.meet.new.self.table.work.now c.if-not-meet.ensures.met in
    let q = c.requires.going in
    (omega (arith, c.meet.ensures.same_table.len, q.tree.inside, q.held.stack, q.held.table), omega (arith, b.few_letters, c.requires.left))

pub returns-in_default-clause-looked : goal.returns-in_default-clause-looked
returns-in_default-clause-looked g c =
    let m = graph_of g.M.Map.graph c.args.graph.now in
    let s = c.args.self.now in
    let changed = c.turn.ensures.changed in
    let none : Least (m.edge (node_at s.table.work.now s.cur) (letter_at s.table.work.now s.cur)) s.from None =
    subst (λ (r : Record). Least (m.edge r.node r.letter) s.from None) c.record-record.ensures c.in_default.ensures in (
      searching_turn m _ _ _ _ _ _ c.requires.going c.turn.ensures.same_table.len changed none,
      changed_quiet _ _ _ _ _ changed,
      left_turn m (letter_at s.table.work.now s.cur) _ s.from c.requires.left (changed_letter _ _ _ _ _ changed) (omega arith),
    )

pub returns-clause-looked : goal.returns-clause-looked
returns-clause-looked g c =
    let m = graph_of g.M.Map.graph c.args.graph.now in
    let word = c.args.graph.now.word in
    let b = g.M.Map.bounds c.args.graph.now.map.now word.elements.now word.stem in
    let s = c.args.self.now in
    let mid = c.meet.new.self.table.work.now in
    let seen = c.if-not-meet.ensures.met in
    let least : Least (m.edge (node_at s.table.work.now s.cur) (letter_at s.table.work.now s.cur)) s.from (Some c.in-Some.next) =
    subst (λ (r : Record). Least (m.edge r.node r.letter) s.from (Some c.in-Some.next)) c.record-record.ensures c.in-Some.ensures in
    let resumed = c.resume-self.ensures.resumed in
    let met = searching_met m s.table.size s.table.top s.cur s.from c.in-Some.next s.table.work.now mid c.requires.going c.meet.ensures.same_table.len c.requires.left least seen in (
      searching_resumed m _ _ _ c.in-Some.next _ _ _ b met c.resume-self.ensures.same_table.len resumed,
      quiet_join _ _ _ _ (met_quiet s.table.size s.table.top s.cur c.in-Some.next s.table.work.now mid seen) (resumed_quiet _ c.in-Some.next _ _ _ resumed),
      left_resumed m s.cur c.in-Some.next _ _ s.from _ _ resumed (met_letter s.table.size s.table.top s.cur c.in-Some.next s.table.work.now mid seen) c.requires.left least.0 (omega arith),
    )
