use Rattle.std.{specs.Prelude.Result, proofs.Common.{◌≡◌, Bool, false, is_some, sym, ap, subst, ◌∙◌}}
use Rattle.vs_contents.proofs.Leads.{end_of}
use Rattle.vs_ring_port.specs.declared.failure.Failure.{Failure}
use Rattle.vs_device_parts.specs.{Calls.Allows, Playing.{MayRun, Runs, situation}, Receiving.pay_event_of, State.DeviceState}
use Rattle.vs_proxy_parts.specs.{State.{ProxyState, Turning, with_device}, Turning.{CountsFew, turning_of}}
use Rattle.vs_proxy.{specs.contracts.proxy.Proxy.the_view, proofs.{Counting.event_few, Staging.{may_event, paid}}}
use Rattle.vs_proxy.proofs.proxy.Proxy.event_stage.Goals as goal

pub pay_event-paid-requires-clause-may : goal.pay_event-paid-requires-clause-may
pay_event-paid-requires-clause-may g c =
    let s : ProxyState = c.args.self.now in
    let sound : is_some s.device.failed ≡ false = sym c.has_failed.ensures ∙ c.if-has_failed.false in
    let may = c.requires.may in
    let t : Turning = turning_of s may.0 in
    let x = situation (g.R.DeviceRing.contents c.args.ring.now) may.1.0 may.1.1 in
    let P : ProxyState → Type 0 = λ z. MayRun (pay_event_of z.device) x in
    (may.1.0, may.1.1, subst P (sym c.self.view_is) (may_event t x sound may.1.2))

pub returns-clause-same : goal.returns-clause-same
returns-clause-same g c =
    let may = c.requires.may in
    let P : ProxyState → Type 0 = λ z. CountsFew 0 0 z.device c.pay_event-paid.new.self in
    subst P c.self.view_is (end_of (λ (r : DeviceState × Result Bool Failure). CountsFew 0 0 c.self.inside.device r.0) Allows (pay_event_of c.self.inside.device) _ _
    (c.pay_event-paid.new.self, c.pay_event-paid.result) (event_few c.self.inside.device) (c.pay_event-paid.ensures.calls may.1.0 may.1.1))

pub returns-clause-calls : goal.returns-clause-calls
returns-clause-calls g c = λ tally host faults.
    let s : ProxyState = c.args.self.now in
    let t : Turning = turning_of s tally in
    let sound : is_some s.device.failed ≡ false = sym c.has_failed.ensures ∙ c.if-has_failed.false in
    let x = situation (g.R.DeviceRing.contents c.args.ring.now) host faults in
    let y = situation (g.R.DeviceRing.contents c.pay_event-paid.new.ring) host faults in
    let r : DeviceState × Result Bool Failure = (c.pay_event-paid.new.self, c.pay_event-paid.result) in
    let P : ProxyState → Type 0 = λ z. Runs (pay_event_of z.device) x r y in
    let u : Turning = turning_of (the_view (record c.self.inside { device = c.pay_event-paid.new.self })) tally in
    let end = ap (λ (z : ProxyState). turning_of (with_device r.0 z) tally) c.self.view_is in
    paid t x sound r u y (subst P c.self.view_is (c.pay_event-paid.ensures.calls host faults)) end
