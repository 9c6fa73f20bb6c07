use Rattle.std.proofs.Common.{◌≡◌, Err, Result, subst, sym, arith}
use Rattle.vs_outside.specs.Faults.{CountsFault}
use Rattle.vs_peer.{specs.{Failing.sink_failed, Exchanging.{Steps, Leaves, Stepped}, declared.{exchange.Progress.Progress, stop.Stop.Stop}}, proofs.Exchanges.sink_kept}
use Rattle.vs_peer.proofs.Exchanges.{step_fails, step_goes, write_fails}
use Rattle.vs_peer.proofs.exchange.step.Goals as goal

pub returns-in_err-sent-clause-steps : goal.returns-in_err-sent-clause-steps
returns-in_err-sent-clause-steps g c =
    let e = c.in_err-sent.field-0.0 in
    let is : c.from_residual.result ≡ Err e = grind (arith, c.from_residual.ensures) in
    let out = g.K.Sink.contents c.args.out.now in
    let host = g.H.HostNet.contents c.args.host.now in
    let mid = g.H.HostNet.contents c.step.new.host in
    let P : Result Progress Stop → Type 0 = λ r. Steps c.args.id c.args.bytes.now c.args.sending.now c.step.new.self host mid out out r in
    subst P (sym is) (write_fails c.args.id c.args.bytes.now c.args.sending.now c.step.new.self host mid out e c.step.ensures.passes
    c.in_err-sent.ensures.sends)

pub returns-in_err-sent-clause-sink_faults : goal.returns-in_err-sent-clause-sink_faults
returns-in_err-sent-clause-sink_faults g c =
    let e = c.in_err-sent.field-0.0 in
    let is : c.from_residual.result ≡ Err e = grind (arith, c.from_residual.ensures) in
    let faults = g.K.Sink.faults c.args.out.now in
    let P : Result Progress Stop → Type 0 = λ r. CountsFault (sink_failed r) faults faults in
    subst P (sym is) (sink_kept c.args.id c.args.bytes.now c.step.new.self
    (g.H.HostNet.contents c.step.new.host) e faults c.in_err-sent.ensures.sends)

pub returns-in_err-came-clause-steps : goal.returns-in_err-came-clause-steps
returns-in_err-came-clause-steps g c =
    let e = c.in_err-came.field-0.0 in
    let is : c.from_residual-in_err-came.result ≡ Err e = grind (arith, c.from_residual-in_err-came.ensures) in
    let out = g.K.Sink.contents c.args.out.now in
    let out' = g.K.Sink.contents c.receive.new.out in
    let host = g.H.HostNet.contents c.args.host.now in
    let mid = g.H.HostNet.contents c.step.new.host in
    let after = g.H.HostNet.contents c.receive.new.host in
    let P : Result Progress Stop → Type 0 = λ r. Steps c.args.id c.args.bytes.now c.args.sending.now c.step.new.self host after out out'
    r in
    subst P (sym is) (step_fails c.args.id c.args.bytes.now c.args.sending.now c.step.new.self host mid after out out'
    c.step.ensures.passes e c.in_err-came.ensures.receives)

pub returns-clause-steps : goal.returns-clause-steps
returns-clause-steps g c =
    let out = g.K.Sink.contents c.args.out.now in
    let out' = g.K.Sink.contents c.receive.new.out in
    let host = g.H.HostNet.contents c.args.host.now in
    let mid = g.H.HostNet.contents c.step.new.host in
    let after = g.H.HostNet.contents c.receive.new.host in
    let t = c.step.new.self in
    let P : Progress → Type 0 = λ p. Stepped c.args.id c.args.bytes.now c.args.sending.now t host after out out' × Leaves c.args.id
    c.args.bytes.now t after p in
    subst P (sym c.comes_to.ensures)
    (step_goes c.args.id c.args.bytes.now c.args.sending.now t host mid after out out' c.step.ensures.passes c.in_ok-sent.sent
    c.in_ok-came.came c.in_ok-sent.ensures.sends
    c.in_ok-came.ensures.receives)
