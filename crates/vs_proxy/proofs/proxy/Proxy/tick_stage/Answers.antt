use Rattle.std.proofs.Common.{◌≡◌, false, is_some, sym, subst, ◌∙◌}
use Rattle.vs_contents.proofs.Leads.{end_of}
use Rattle.vs_device_parts.specs.{Calls.Allows, Playing.MayRun, Playing.Runs, Playing.situation, State.DeviceState, Streams.tick_of}
use Rattle.vs_proxy_parts.specs.{Handshakes.tick_handshakes, State.{ProxyState, Turning, with_device}, Turning.{CountsFew, turning_of}}
use Rattle.vs_proxy.proofs.{Counting.few_then, Counting.tick_few, Staging.may_tick, Staging.may_tick_hands, Staging.ticked}
use Rattle.vs_proxy.proofs.proxy.Proxy.tick_stage.Goals as goal

pub tick-requires : goal.tick-requires
tick-requires g c =
    let s : ProxyState = c.args.self.now in
    let t : Turning = turning_of s c.args.tally.now in
    let sound : is_some s.device.failed ≡ false = sym c.has_failed.ensures ∙ c.if-has_failed.false in
    let may = c.requires.may in
    let x = situation may.0 (g.H.HostNet.contents c.args.host.now) (g.H.HostNet.faults c.args.host.now) in
    let P : ProxyState → Type 0 = λ z. MayRun (tick_of c.args.now z.device) x in
    record { may = (may.0, subst P (sym c.self.view_is) (may_tick t x sound c.args.now may.1)) }

pub tick_handshakes-requires-clause-may : goal.tick_handshakes-requires-clause-may
tick_handshakes-requires-clause-may g c =
    let s : ProxyState = c.args.self.now in
    let t : Turning = turning_of s c.args.tally.now in
    let sound : is_some s.device.failed ≡ false = sym c.has_failed.ensures ∙ c.if-has_failed.false in
    let may = c.requires.may in
    let d : DeviceState = c.tick.new.self in
    let x = situation may.0 (g.H.HostNet.contents c.args.host.now) (g.H.HostNet.faults c.args.host.now) in
    let y = situation may.0 (g.H.HostNet.contents c.tick.new.host) (g.H.HostNet.faults c.tick.new.host) in
    let P : ProxyState → Type 0 = λ z. Runs (tick_of c.args.now z.device) x d y in
    let Q : ProxyState → Type 0 = λ z. MayRun (tick_handshakes (turning_of (with_device d z) c.args.tally.now)) y in
    (may.0, subst Q (sym c.self.view_is) (may_tick_hands t x sound c.args.now d y may.1 (subst P c.self.view_is (c.tick.ensures.calls may.0))))

pub returns-clause-same : goal.returns-clause-same
returns-clause-same g c =
    let may = c.requires.may in
    let d : DeviceState = c.tick.new.self in
    let P : ProxyState → Type 0 = λ z. CountsFew 0 0 z.device d in
    let first : CountsFew 0 0 c.self.inside.device d =
    end_of (CountsFew 0 0 c.self.inside.device) Allows (tick_of c.args.now c.self.inside.device) _ _ d (tick_few c.args.now c.self.inside.device) (c.tick.ensures.calls may.0) in
    few_then 0 0 0 0 c.args.self.now.device d c.tick_handshakes.new.self.device (subst P c.self.view_is first) c.tick_handshakes.ensures.same

pub returns-clause-calls : goal.returns-clause-calls
returns-clause-calls g c = λ ring.
    let s : ProxyState = c.args.self.now in
    let t : Turning = turning_of s c.args.tally.now in
    let sound : is_some s.device.failed ≡ false = sym c.has_failed.ensures ∙ c.if-has_failed.false in
    let d : DeviceState = c.tick.new.self in
    let u : Turning = turning_of c.tick_handshakes.new.self c.tick_handshakes.new.tally in
    let x = situation ring (g.H.HostNet.contents c.args.host.now) (g.H.HostNet.faults c.args.host.now) in
    let y = situation ring (g.H.HostNet.contents c.tick.new.host) (g.H.HostNet.faults c.tick.new.host) in
    let z = situation ring (g.H.HostNet.contents c.tick_handshakes.new.host) (g.H.HostNet.faults c.tick_handshakes.new.host) in
    let P : ProxyState → Type 0 = λ p. Runs (tick_of c.args.now p.device) x d y in
    let Q : ProxyState → Type 0 = λ p. Runs (tick_handshakes (turning_of (with_device d p) c.args.tally.now)) y u z in
    ticked t x sound c.args.now d u y z (subst P c.self.view_is (c.tick.ensures.calls ring)) (subst Q c.self.view_is (c.tick_handshakes.ensures.calls ring))
