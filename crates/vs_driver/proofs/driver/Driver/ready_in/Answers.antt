use Rattle.std.proofs.Common.{◌≡◌, Ok, Err, rules}
use Rattle.vs_conn.specs.End.{may_send_of}
use Rattle.vs_driver.proofs.Sending.{ready_on, stops}
use Rattle.vs_driver.proofs.driver.Driver.ready_in.Goals as goal

pub returns-in-Some-Ok-clause-ready : goal.returns-in-Some-Ok-clause-ready
returns-in-Some-Ok-clause-ready c = λ e is.
    let may : may_send_of e.value.end ≡ Ok c.in-Some-Ok.credit = search rules in
    ready_on e c.args.bytes.now c.args.self.now c.in-Some-Ok.credit c.ready_with.new.self c.ready_with.result may
    (c.ready_with.ensures.ready e is)

pub returns-in-Some-Err-clause-ready : goal.returns-in-Some-Err-clause-ready
returns-in-Some-Err-clause-ready c = λ e is.
    let may : may_send_of e.value.end ≡ Err c.in-Some-Err.why = search rules in
    stops e c.args.bytes.now c.args.self.now c.in-Some-Err.why c.stopped.result may c.stopped.ensures
