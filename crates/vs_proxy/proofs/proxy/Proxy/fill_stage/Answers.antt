use Rattle.std.{specs.Prelude.{Result, Ok, Err}, proofs.Common.{◌≡◌, ◌+◌, false, is_some, sym, ap, subst, ◌∙◌, arith}}
use Rattle.vs_contents.proofs.Leads.{end_of}
use Rattle.vs_ring_port.specs.declared.failure.Failure.{Failure}
use Rattle.vs_device_parts.specs.{Calls.Allows, Playing.{MayRun, Runs, situation}, Receiving.fill_rx_of, State.DeviceState, declared.answers.Filled.Filled}
use Rattle.vs_proxy_parts.specs.{State.{ProxyState, Turning, with_device}, Turning.{CountsFew, turning_of}, declared.tally.Tally.Tally}
use Rattle.vs_proxy.{specs.contracts.proxy.Proxy.the_view, proofs.{Counting.few_more, Filling.{FewFilled, fill_few}, Staging.{filled_up, may_fill}}}
use Rattle.vs_proxy.proofs.proxy.Proxy.fill_stage.Goals as goal

pub fill_rx-requires-clause-may : goal.fill_rx-requires-clause-may
fill_rx-requires-clause-may g c =
    let s : ProxyState = c.args.self.now in
    let t : Turning = turning_of s c.args.tally.now in
    let sound : is_some s.device.failed ≡ false = sym c.has_failed.ensures ∙ c.if-has_failed.false in
    let x = situation (g.R.DeviceRing.contents c.args.ring.now) (g.H.HostNet.contents c.args.host.now) (g.H.HostNet.faults c.args.host.now) in
    let P : ProxyState → Type 0 = λ z. MayRun (fill_rx_of z.device) x in
    subst P (sym c.self.view_is) (may_fill t x sound c.requires.may)

pub returns-in_default-clause-calls : goal.returns-in_default-clause-calls
returns-in_default-clause-calls g c =
    let s : ProxyState = c.args.self.now in
    let t : Turning = turning_of s c.args.tally.now in
    let sound : is_some s.device.failed ≡ false = sym c.has_failed.ensures ∙ c.if-has_failed.false in
    let x = situation (g.R.DeviceRing.contents c.args.ring.now) (g.H.HostNet.contents c.args.host.now) (g.H.HostNet.faults c.args.host.now) in
    let y = situation (g.R.DeviceRing.contents c.fill_rx.new.ring) (g.H.HostNet.contents c.fill_rx.new.host) (g.H.HostNet.faults c.fill_rx.new.host) in
    let r : DeviceState × Result Filled Failure = (c.fill_rx.new.self, Err c.in_default.field-0) in
    let P : ProxyState → Type 0 = λ z. Runs (fill_rx_of z.device) x r y in
    let u : Turning = turning_of (the_view (record c.self.inside { device = r.0 })) c.args.tally.now in
    let end = ap (λ (z : ProxyState). turning_of (with_device r.0 z) c.args.tally.now) c.self.view_is in
    filled_up t x sound r u y (subst P c.self.view_is c.in_default.ensures.calls) end

pub returns-clause-opened : goal.returns-clause-opened
returns-clause-opened g c = λ none.
    let d = c.self.inside.device in
    let P : ProxyState → Type 0 = λ z. CountsFew 0 384 z.device c.fill_rx.new.self in
    let few : CountsFew 0 c.in-Ok.filled.put d c.fill_rx.new.self =
    end_of (FewFilled d) Allows (fill_rx_of d) _ _ (c.fill_rx.new.self, Ok c.in-Ok.filled) (fill_few d) c.in-Ok.ensures.calls in
    subst P c.self.view_is (few_more 0 c.in-Ok.filled.put 0 384 d c.fill_rx.new.self (omega arith) (omega (arith, c.in-Ok.ensures.few)) few)

pub returns-clause-calls : goal.returns-clause-calls
returns-clause-calls g c =
    let s : ProxyState = c.args.self.now in
    let tally : Tally = c.args.tally.now in
    let t : Turning = turning_of s tally in
    let sound : is_some s.device.failed ≡ false = sym c.has_failed.ensures ∙ c.if-has_failed.false in
    let x = situation (g.R.DeviceRing.contents c.args.ring.now) (g.H.HostNet.contents c.args.host.now) (g.H.HostNet.faults c.args.host.now) in
    let y = situation (g.R.DeviceRing.contents c.fill_rx.new.ring) (g.H.HostNet.contents c.fill_rx.new.host) (g.H.HostNet.faults c.fill_rx.new.host) in
    let f : Filled = c.in-Ok.filled in
    let r : DeviceState × Result Filled Failure = (c.fill_rx.new.self, Ok f) in
    let P : ProxyState → Type 0 = λ z. Runs (fill_rx_of z.device) x r y in
    let after : Tally = record tally { put = tally.put + f.put; read = tally.read + f.read } in
    let u : Turning = turning_of (the_view (record c.self.inside { device = r.0 })) after in
    let end = ap (λ (z : ProxyState). turning_of (with_device r.0 z) after) c.self.view_is in
    filled_up t x sound r u y (subst P c.self.view_is c.in-Ok.ensures.calls) end
