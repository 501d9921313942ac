use Rattle.std.proofs.Common.{◌≡◌, ◌+◌, Some, length, sym, ap, ◌∙◌, arith, length-append}
use Rattle.text.specs.Pieces.{pieces}
use Rattle.text.specs.Reading.{judge, after}
use Rattle.text.proofs.Onwards.{read_on, left_fit}
use Rattle.text.proofs.cursors.Cursor.advance.Goals as goal

pub returns-clause-turned : goal.returns-clause-turned
returns-clause-turned c = λ text k h.
    let line = c.args.self.now.rest.line in
    let rest = c.in-Some.rest.text.now in
    let x = c.in_ok-entry.entry in
    let m = rw c.in_ok-self.ensures.ok_part at (c.take.ensures k h.holds) in
    let e : c.saturating_add.result ≡ line + 1 = omega arith in
    let l = simp length-append at (ap length c.in-Some.ensures.joined) in
    record {
      reads = m.fit;
      stands =
          record {
            holds = m.holds;
            same =
                read_on text k line c.args.self.now.rest.text.now c.in-Some.head.text.now rest c.args.self.now.place.stage (Some x) h.same c.in-Some.ensures.parted h.holds.stage (sym c.in_ok-entry.ensures.ok_part ∙ c.read_entry.ensures)
                ∙ left_fit line rest k.sofar x m.fit
                ∙ ap (λ n. judge (after k.sofar x) n (pieces 10 rest)) (sym e);
            counted = omega arith;
            short = h.short;
          };
    }
