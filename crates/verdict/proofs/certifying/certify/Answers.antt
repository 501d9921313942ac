use Rattle.std.proofs.Common.{◌∙◌, ◌∷◌, Ok}
use Rattle.bench.specs.Tellings.{Call, Status}
use Rattle.verdict.proofs.Calling.{certified, led_empty}
use Rattle.verdict.proofs.certifying.certify.Goals as goal

-- what an inspection passed is told to be passed, and so release is granted
pub returns-in_err-form : goal.returns-in_err-form
returns-in_err-form g c =
    λ a b n calls mine led.
    let first = led_empty g.D.Chart.meaning g.R.Chart.meaning a b n calls c.args.bench.now mine c.args.table.now led c.in_ok-verdict.ensures.answer.sized in
    let judge = c.in_ok-verdict.ensures.law.own a b n calls Status.empty first in
    let judged = Call.judge c.judge.new.table (Ok c.in_ok-verdict.verdict) ∷ calls in
    let inspect = c.in_ok-inspect.ensures.law.own a b n judged judge.now judge.led in
    absurd (c.in_err-form.ensures a b n (Call.inspect (Ok c.in_ok-inspect.field-0) ∷ judged) inspect.now inspect.led
    inspect.follows.0 inspect.follows.3)

pub returns : goal.returns
returns g c =
    λ a b n calls mine led.
    let first = led_empty g.D.Chart.meaning g.R.Chart.meaning a b n calls c.args.bench.now mine c.args.table.now led c.in_ok-verdict.ensures.answer.sized in
    let judge = c.in_ok-verdict.ensures.law.own a b n calls Status.empty first in
    let judged = Call.judge c.judge.new.table (Ok c.in_ok-verdict.verdict) ∷ calls in
    let inspect = c.in_ok-inspect.ensures.law.own a b n judged judge.now judge.led in (
      first.sized,
      c.in_ok-verdict.ensures.answer.work_sized ∙ led.same_room,
      certified g.D.Chart.meaning g.R.Chart.meaning a b n calls c.args.table.now c.judge.new.table c.in_ok-verdict.verdict c.judge.new.self
          c.inspect.new.self c.in_ok-inspect.field-0 judge inspect c.in_ok-form.form
          (c.in_ok-form.ensures a b n (Call.inspect (Ok c.in_ok-inspect.field-0) ∷ judged) inspect.now inspect.led),
    )
