use Rattle.std.{specs.Prelude.Result, proofs.Common.{◌≡◌, ℕ, Some, None, sym, ap, subst, ◌∙◌}}
use Rattle.vs_contents.proofs.Leads.{end_of}
use Rattle.vs_flow.specs.declared.{flow.Flow.Flow, table.TableFault.TableFault}
use Rattle.vs_device_parts.specs.{Calls.Allows, Playing.{Runs, situation}, State.DeviceState, Turns.open_of}
use Rattle.vs_proxy_parts.specs.{Handshakes.{next_after, next_flow}, State.{ProxyState, Turning, with_device}, Turning.{CountsFew, turning_of}}
use Rattle.vs_proxy.{specs.contracts.proxy.Proxy.the_view, proofs.{Counting.open_few, Handshaking.{let_in, turned_away}}}
use Rattle.vs_proxy.proofs.proxy.Proxy.connect.Goals as goal

pub returns-in_default-clause-calls : goal.returns-in_default-clause-calls
returns-in_default-clause-calls g c = λ ring.
    let s : ProxyState = c.args.self.now in
    let t : Turning = turning_of s c.args.tally.now in
    let none : next_flow c.args.port s.next_port s.device ≡ None = sym c.in_default.ensures in
    turned_away c.args.stream c.args.port t (turning_of s c.close_client.new.tally) _ _ none (c.close_client.ensures.calls ring)
    (ap (turning_of s) c.close_client.ensures.count)

pub returns-clause-opened : goal.returns-clause-opened
returns-clause-opened g c =
    let r : DeviceState × Result ℕ TableFault = (c.open-slot.new.self, c.open-slot.result) in
    let ring = c.requires.may.0 in
    let P : ProxyState → Type 0 = λ t. CountsFew 1 0 t.device c.open-slot.new.self in
    let flow : Flow = c.in-Some.flow in
    let tree = open_of flow c.args.stream c.self.inside.device in
    subst P c.self.view_is (end_of (λ (x : DeviceState × Result ℕ TableFault). CountsFew 1 0 c.self.inside.device x.0) Allows tree _ _ r
    (open_few flow c.args.stream c.self.inside.device) (c.open-slot.ensures.calls ring))

pub returns-clause-calls : goal.returns-clause-calls
returns-clause-calls g c = λ ring.
    let d = c.self.inside in
    let s : ProxyState = c.args.self.now in
    let t : Turning = turning_of s c.args.tally.now in
    let flow : Flow = c.in-Some.flow in
    let some : next_flow c.args.port s.next_port s.device ≡ Some flow = sym c.in-Some.ensures in
    let host = g.H.HostNet.contents c.args.host.now in
    let faults = g.H.HostNet.faults c.args.host.now in
    let x = situation ring host faults in
    let y = situation ring (g.H.HostNet.contents c.open-slot.new.host) (g.H.HostNet.faults c.open-slot.new.host) in
    let r : DeviceState × Result ℕ TableFault = (c.open-slot.new.self, c.open-slot.result) in
    let P : ProxyState → Type 0 = λ z. Runs (open_of flow c.args.stream z.device) x r y in
    let next = c.next_after-self-inside.result in
    let counts : next ≡ next_after d.next_port = c.next_after-self-inside.ensures in
    let end = ap (λ (n : ℕ). turning_of (record (with_device r.0 (the_view d)) { next_port = n }) c.args.tally.now) counts
    ∙ ap (λ (z : ProxyState). turning_of (record (with_device r.0 z) { next_port = next_after z.next_port }) c.args.tally.now) c.self.view_is in
    let_in c.args.stream c.args.port t flow r (turning_of (the_view (record d { device = c.open-slot.new.self; next_port = next })) c.args.tally.now) x y some
    (subst P c.self.view_is (c.open-slot.ensures.calls ring)) end
