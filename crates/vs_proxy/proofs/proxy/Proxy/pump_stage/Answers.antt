use Rattle.std.proofs.Common.{◌≡◌, ℕ, ◌+◌, false, is_some, sym, ap, subst, ◌∙◌, arith}
use Rattle.vs_contents.proofs.Leads.{end_of}
use Rattle.vs_device_parts.specs.{Playing.{MayRun, Runs, situation}, Calls.Allows, Streams.{Writing, pump_of}, Written.writing}
use Rattle.vs_proxy_parts.specs.{State.ProxyState, State.Turning, State.with_device, Turning.CountsFew, Turning.turning_of}
use Rattle.vs_proxy.{specs.contracts.proxy.Proxy.the_view, proofs.Counting.pump_few, proofs.Staging.may_pump, proofs.Staging.pumped}
use Rattle.vs_proxy.proofs.proxy.Proxy.pump_stage.Goals as goal

pub pump_out-tally-requires : goal.pump_out-tally-requires
pump_out-tally-requires g c =
    let s : ProxyState = c.args.self.now in
    let t : Turning = turning_of s c.args.tally.now in
    let sound : is_some s.device.failed ≡ false = sym c.has_failed.ensures ∙ c.if-has_failed.false in
    let may = c.requires.may in
    let x = situation may.0 (g.H.HostNet.contents c.args.host.now) (g.H.HostNet.faults c.args.host.now) in
    let P : ProxyState → Type 0 = λ z. MayRun (pump_of z.device) x in
    record { may = (may.0, subst P (sym c.self.view_is) (may_pump t x sound may.1)) }

pub returns-clause-same : goal.returns-clause-same
returns-clause-same g c =
    let ring = c.requires.may.0 in
    let P : ProxyState → Type 0 = λ z. CountsFew 0 0 z.device c.pump_out-tally.new.self in
    subst P c.self.view_is (end_of (λ (w : Writing). CountsFew 0 0 c.self.inside.device w.state) Allows (pump_of c.self.inside.device) _ _
    (writing c.pump_out-tally.new.self c.pump_out-tally.result) (pump_few c.self.inside.device) (c.pump_out-tally.ensures.calls ring))

pub returns-clause-calls : goal.returns-clause-calls
returns-clause-calls g c = λ ring.
    let d = c.self.inside in
    let s : ProxyState = c.args.self.now in
    let t : Turning = turning_of s c.args.tally.now in
    let sound : is_some s.device.failed ≡ false = sym c.has_failed.ensures ∙ c.if-has_failed.false in
    let x = situation ring (g.H.HostNet.contents c.args.host.now) (g.H.HostNet.faults c.args.host.now) in
    let y = situation ring (g.H.HostNet.contents c.pump_out-tally.new.host) (g.H.HostNet.faults c.pump_out-tally.new.host) in
    let n = c.pump_out-tally.result in
    let w : Writing = writing c.pump_out-tally.new.self n in
    let P : ProxyState → Type 0 = λ z. Runs (pump_of z.device) x w y in
    let sum : n ≡ c.args.tally.now.wrote + n = omega (arith, c.requires.none) in
    let u : Turning = turning_of (the_view (record d { device = c.pump_out-tally.new.self })) (record c.args.tally.now { wrote = n }) in
    let end = ap (λ (z : ProxyState). turning_of (with_device c.pump_out-tally.new.self z) (record c.args.tally.now { wrote = n })) c.self.view_is
    ∙ ap (λ (k : ℕ). turning_of (with_device c.pump_out-tally.new.self s) (record c.args.tally.now { wrote = k })) sum in
    pumped t x sound w u y (subst P c.self.view_is (c.pump_out-tally.ensures.calls ring)) end
