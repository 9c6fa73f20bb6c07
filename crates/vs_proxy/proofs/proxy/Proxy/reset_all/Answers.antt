use Rattle.std.{specs.Prelude.Ok, proofs.Common.{◌≡◌, List, [], sym, ap, subst, ◌∙◌}}
use Rattle.vs_contents.specs.CallTree.{for_each}
use Rattle.vs_device_parts.specs.{Playing.{MayRun, Runs, situation}, State.DeviceState, Turns.reset_of}
use Rattle.vs_proxy_parts.specs.{Handshakes.streams_of, State.{Handshake, ProxyState, with_device}, Turns.close_handshake}
use Rattle.vs_proxy.{specs.contracts.proxy.Proxy.the_view, proofs.Resetting.{may_close_all, may_reset, was_reset}}
use Rattle.vs_proxy.proofs.proxy.Proxy.reset_all.Goals as goal

pub reset-requires-clause-may : goal.reset-requires-clause-may
reset-requires-clause-may g c =
    let s : ProxyState = c.args.self.now in
    let x = situation (g.R.DeviceRing.contents c.args.ring.now) (g.H.HostNet.contents c.args.host.now) (g.H.HostNet.faults c.args.host.now) in
    let P : ProxyState → Type 0 = λ t. MayRun (reset_of c.args.cid t.device) x in
    subst P (sym c.self.view_is) (may_reset c.args.cid s x c.requires.may)

pub close_handshakes-requires : goal.close_handshakes-requires
close_handshakes-requires g c =
    let s : ProxyState = c.args.self.now in
    let x = situation (g.R.DeviceRing.contents c.args.ring.now) (g.H.HostNet.contents c.args.host.now) (g.H.HostNet.faults c.args.host.now) in
    let ring = g.R.DeviceRing.contents c.reset.new.ring in
    let y = situation ring (g.H.HostNet.contents c.reset.new.host) (g.H.HostNet.faults c.reset.new.host) in
    let d : DeviceState = c.reset.new.self in
    let P : ProxyState → Type 0 = λ t. Runs (reset_of c.args.cid t.device) x (d, Ok tt) y in
    let Q : ProxyState → Type 0 = λ t. MayRun (for_each close_handshake (streams_of t) s) y in
    record { may = (s, (ring, subst Q (sym c.self.view_is) (may_close_all c.args.cid s d x y c.requires.may (subst P c.self.view_is c.in_ok-reset.ensures.calls)))) }

pub returns-clause-calls : goal.returns-clause-calls
returns-clause-calls g c =
    let s : ProxyState = c.args.self.now in
    let x = situation (g.R.DeviceRing.contents c.args.ring.now) (g.H.HostNet.contents c.args.host.now) (g.H.HostNet.faults c.args.host.now) in
    let ring = g.R.DeviceRing.contents c.reset.new.ring in
    let y = situation ring (g.H.HostNet.contents c.reset.new.host) (g.H.HostNet.faults c.reset.new.host) in
    let z = situation ring (g.H.HostNet.contents c.close_handshakes.new.host) (g.H.HostNet.faults c.close_handshakes.new.host) in
    let d : DeviceState = c.reset.new.self in
    let u : ProxyState = the_view (record c.self.inside { device = d; handshakes = c.clear.new.self }) in
    let P : ProxyState → Type 0 = λ t. Runs (reset_of c.args.cid t.device) x (d, Ok tt) y in
    let Q : ProxyState → Type 0 = λ t. Runs (for_each close_handshake (streams_of t) s) y s z in
    let cleared : c.clear.new.self ≡ [] = c.clear.ensures in
    let end : u ≡ record (with_device d s) { handshakes = [] } =
    ap (λ (hs : List Handshake). the_view (record c.self.inside { device = d; handshakes = hs })) cleared
    ∙ ap (λ (t : ProxyState). record (with_device d t) { handshakes = [] }) c.self.view_is in
    was_reset c.args.cid s d u x y z (subst P c.self.view_is c.in_ok-reset.ensures.calls) (subst Q c.self.view_is (c.close_handshakes.ensures.calls s ring)) end
