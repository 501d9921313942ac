use Rattle.std.proofs.Common.{[], ◌∷◌, Ok, subst}
use Rattle.bench.specs.Calls.{Sized}
use Rattle.bench.specs.Tellings.{Call, Status}
use Rattle.slip.specs.Certificates.{Certificate}
use Rattle.verdict.specs.Certified.{Ready}
use Rattle.verdict.proofs.Calling.{confirmed}
use Rattle.verdict.proofs.certifying.confirm.Goals as goal

pub returns : goal.returns
returns g c =
    let a = g.D.Chart.meaning c.args.duty in
    let b = g.R.Chart.meaning c.args.rule in
    let n = c.args.room in
    let given : Certificate = record { kind = c.args.kind; stem = c.args.stem; records = c.args.records.now } in
    let new = c.in_ok-bench.ensures.answer in
    let sized = subst (λ k. Sized k c.args.table.now) new.same_room c.in_ok-put.ensures.answer.sized in
    let ready : Ready a b n c.args.table.now =
    record { together = new.together; allowed = new.allowed; sized = sized } in
    let put =
    c.in_ok-put.ensures.law.own a b n [] Status.empty (c.in_ok-bench.ensures.law c.args.table.now sized) in
    let calls = Call.put given (Ok c.in_ok-put.field-0) ∷ [] in
    let inspect = c.in_ok-inspect.ensures.law.own a b n calls put.now put.led in
    confirmed g.D.Chart.meaning g.R.Chart.meaning a b n given c.args.table.now c.put.new.table c.put.new.self calls
    c.in_ok-put.field-0 c.in_ok-inspect.field-0 c.inspect.new.self put inspect ready c.passed_form.result
    (c.passed_form.ensures a b n (Call.inspect (Ok c.in_ok-inspect.field-0) ∷ calls) inspect.now inspect.led)
