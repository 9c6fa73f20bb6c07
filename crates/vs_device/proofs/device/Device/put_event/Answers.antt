use Rattle.std.proofs.Common.{◌≡◌, Bool, true, false, Result, Ok, refl, sym, ap, ◌∙◌, arith}
use Rattle.vs_ring_port.specs.declared.failure.Failure.{Failure}
use Rattle.vs_device_parts.specs.{Playing.situation, State.DeviceState}
use Rattle.vs_device.specs.contracts.device.Device.{the_view}
use Rattle.vs_device.proofs.device.Device.put_event.Goals as goal

pub return_event-requires-clause-may : goal.return_event-requires-clause-may
return_event-requires-clause-may g c =
    let host = c.requires.may.0 in
    let faults = c.requires.may.1 in
    (c.requires.may.2.1 tt (situation (g.R.DeviceRing.contents c.write_event.new.ring) host faults) (c.write_event.ensures.calls host faults)).0
    (omega arith)

pub returns-clause-calls : goal.returns-clause-calls
returns-clause-calls g c = λ host faults.
    let d = c.self.inside in
    let end : the_view (record d { event = c.paid.new.self }) ≡ record c.args.self.now { event_owed = false } =
    ap (λ (b : Bool). the_view (record d { event = b })) c.paid.ensures ∙ ap (λ (u : DeviceState). let r : DeviceState = record u { event_owed = false } in r) c.self.view_is in
    let last = ap (λ (u : DeviceState). let r : DeviceState × Result Bool Failure = (u, Ok true) in r) (sym end) in
    (tt, _, c.write_event.ensures.calls host faults, (tt, _, c.return_event.ensures.calls host faults, (last, refl)))
