use Rattle.std.proofs.Common.{◌+◌, Bool, true, false, sym, ap, subst, ◌∙◌}
use Rattle.vs_contents.proofs.Leads.{end_of}
use Rattle.vs_device_parts.specs.{Playing.{MayRun, Runs, situation}, Calls.Allows, State.DeviceState, Transmitting.take_tx_of, declared.answers.Taken.Taken}
use Rattle.vs_proxy_parts.specs.{State.{ProxyState, Turning, with_device}, Turning.{CountsFew, turning_of}, declared.tally.Tally.Tally}
use Rattle.vs_proxy.{specs.contracts.proxy.Proxy.the_view, proofs.{Staging.{may_take_one, took}, Taking.take_few}}
use Rattle.vs_proxy.proofs.proxy.Proxy.take_one.Goals as goal

pub take_tx-taken-requires-clause-may : goal.take_tx-taken-requires-clause-may
take_tx-taken-requires-clause-may g c =
    let s : ProxyState = c.args.self.now in
    let t : Turning = turning_of s c.args.tally.now in
    let x = situation (g.R.DeviceRing.contents c.args.ring.now) (g.H.HostNet.contents c.args.host.now) (g.H.HostNet.faults c.args.host.now) in
    let P : ProxyState → Type 0 = λ z. MayRun (take_tx_of z.device) x in
    subst P (sym c.self.view_is) (may_take_one t x c.requires.may)

pub returns-then-not-took_packet-clause-opened : goal.returns-then-not-took_packet-clause-opened
returns-then-not-took_packet-clause-opened g c =
    let P : ProxyState → Type 0 = λ z. CountsFew 1 1 z.device c.take_tx-taken.new.self in
    subst P c.self.view_is (end_of (λ (r : DeviceState × Taken). CountsFew 1 1 c.self.inside.device r.0) Allows (take_tx_of c.self.inside.device) _ _
    (c.take_tx-taken.new.self, c.take_tx-taken.result) (take_few c.self.inside.device) c.take_tx-taken.ensures.calls)

pub returns-then-not-took_packet-clause-calls : goal.returns-then-not-took_packet-clause-calls
returns-then-not-took_packet-clause-calls g c =
    let s : ProxyState = c.args.self.now in
    let t : Turning = turning_of s c.args.tally.now in
    let x = situation (g.R.DeviceRing.contents c.args.ring.now) (g.H.HostNet.contents c.args.host.now) (g.H.HostNet.faults c.args.host.now) in
    let y = situation (g.R.DeviceRing.contents c.take_tx-taken.new.ring) (g.H.HostNet.contents c.take_tx-taken.new.host) (g.H.HostNet.faults c.take_tx-taken.new.host) in
    let r : DeviceState × Taken = (c.take_tx-taken.new.self, c.take_tx-taken.result) in
    let P : ProxyState → Type 0 = λ z. Runs (take_tx_of z.device) x r y in
    let end : Turning × Bool = (turning_of (the_view (record c.self.inside { device = r.0 })) c.args.tally.now, false) in
    let ends = ap (λ (z : ProxyState). let q : Turning × Bool = (turning_of (with_device r.0 z) c.args.tally.now, false) in q) c.self.view_is in
    took t x r false end y (subst P c.self.view_is c.take_tx-taken.ensures.calls) (sym c.took_packet.ensures ∙ c.if-not-took_packet.true) ends

pub returns-clause-opened : goal.returns-clause-opened
returns-clause-opened g c =
    let P : ProxyState → Type 0 = λ z. CountsFew 1 1 z.device c.take_tx-taken.new.self in
    subst P c.self.view_is (end_of (λ (r : DeviceState × Taken). CountsFew 1 1 c.self.inside.device r.0) Allows (take_tx_of c.self.inside.device) _ _
    (c.take_tx-taken.new.self, c.take_tx-taken.result) (take_few c.self.inside.device) c.take_tx-taken.ensures.calls)

pub returns-clause-calls : goal.returns-clause-calls
returns-clause-calls g c =
    let s : ProxyState = c.args.self.now in
    let t : Turning = turning_of s c.args.tally.now in
    let x = situation (g.R.DeviceRing.contents c.args.ring.now) (g.H.HostNet.contents c.args.host.now) (g.H.HostNet.faults c.args.host.now) in
    let y = situation (g.R.DeviceRing.contents c.take_tx-taken.new.ring) (g.H.HostNet.contents c.take_tx-taken.new.host) (g.H.HostNet.faults c.take_tx-taken.new.host) in
    let r : DeviceState × Taken = (c.take_tx-taken.new.self, c.take_tx-taken.result) in
    let P : ProxyState → Type 0 = λ z. Runs (take_tx_of z.device) x r y in
    let counted : Tally = record c.args.tally.now { took = c.args.tally.now.took + 1 } in
    let end : Turning × Bool = (turning_of (the_view (record c.self.inside { device = r.0 })) counted, true) in
    let ends = ap (λ (z : ProxyState). let q : Turning × Bool = (turning_of (with_device r.0 z) counted, true) in q) c.self.view_is in
    took t x r true end y (subst P c.self.view_is c.take_tx-taken.ensures.calls) (sym c.took_packet.ensures ∙ c.if-not-took_packet.false) ends
