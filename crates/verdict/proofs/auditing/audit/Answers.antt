use Rattle.std.proofs.Common.{◌∙◌, [], ◌∷◌, Ok, subst}
use Rattle.std.proofs.lemmas.Result.{err_from_is_err_and}
use Rattle.bench.specs.Calls.{Sized}
use Rattle.bench.specs.Tellings.{Call, Status}
use Rattle.slip.specs.Certificates.{Certificate}
use Rattle.verdict.specs.Certified.{Certifies, Ready}
use Rattle.verdict.proofs.Calling.{audit_refused, breach_told}
use Rattle.verdict.proofs.auditing.audit.Goals as goal

pub returns-in_err-certified : goal.returns-in_err-certified
returns-in_err-certified g c =
    let a = g.D.Chart.meaning c.args.duty in
    let b = g.R.Chart.meaning c.args.rule in
    let n = c.args.room in
    let given : Certificate = record { kind = c.args.kind; stem = c.args.stem; records = c.args.records.now } in
    let new = c.in_ok-bench.ensures.answer in
    let sized = subst (λ k. Sized k c.args.table.now) new.same_room c.in_ok-put.ensures.answer.sized in
    let made = c.in_ok-bench.ensures.law c.args.table.now sized in
    let put = c.in_ok-put.ensures.law.own a b n [] Status.empty made in
    let calls = Call.put given (Ok c.in_ok-put.field-0) ∷ [] in
    let inspect = c.inspect.ensures.law.own a b n calls put.now put.led in
    let examined = Call.inspect c.inspect.result ∷ calls in
    let cleared = c.clear.ensures.law a b n examined inspect.now c.put.new.table c.put.new.table inspect.led inspect.led.sized in
    let refused = c.in_err-certified.ensures a b n (Call.clear ∷ examined) c.put.new.table cleared in
    let p = err_from_is_err_and c.from_residual-in_err-certified.result c.from_residual-in_err-certified.ensures.1 in
    rw (p.1, p.2)
    (audit_refused a b n new.together new.allowed given c.args.table.now c.put.new.table c.certify.new.table c.args.work.now
    c.certify.new.work sized put.led.sized (c.in_ok-check_work.ensures ∙ new.same_room) put.follows.1 put.writes c.in_err-certified.field-0.0 refused)

pub returns : goal.returns
returns g c =
    let a = g.D.Chart.meaning c.args.duty in
    let b = g.R.Chart.meaning c.args.rule in
    let n = c.args.room in
    let given : Certificate = record { kind = c.args.kind; stem = c.args.stem; records = c.args.records.now } in
    let new = c.in_ok-bench.ensures.answer in
    let sized = subst (λ k. Sized k c.args.table.now) new.same_room c.in_ok-put.ensures.answer.sized in
    let made = c.in_ok-bench.ensures.law c.args.table.now sized in
    let put = c.in_ok-put.ensures.law.own a b n [] Status.empty made in
    let calls = Call.put given (Ok c.in_ok-put.field-0) ∷ [] in
    let inspect = c.inspect.ensures.law.own a b n calls put.now put.led in
    let examined = Call.inspect c.inspect.result ∷ calls in
    let cleared = c.clear.ensures.law a b n examined inspect.now c.put.new.table c.put.new.table inspect.led inspect.led.sized in
    let certified = c.in_ok-certified.ensures a b n (Call.clear ∷ examined) c.put.new.table cleared in
    let ready : Ready a b n c.args.table.now =
    record { together = new.together; allowed = new.allowed; sized = sized } in (
      ready,
      c.in_ok-check_work.ensures ∙ new.same_room,
      record {
        fits = put.follows.1;
        breach = breach_told a b n given c.inspect.result put.now inspect.now put.follows.2 inspect.follows c.in_ok-breach.breach c.in_ok-breach.ensures;
        certifies = subst (λ t. Certifies a b n t c.certify.new.table c.in_ok-certified.certified) put.writes certified.2;
      },
    )
