use Rattle.std.proofs.Common.{◌≡◌, Some, sym, ap, subst, ◌∙◌}
use Rattle.vs_flow.specs.Table.{Table, value_under}
use Rattle.vs_device_parts.{specs.{State.{DeviceConnection, DeviceState}, Connections.with_connection, Playing.MayClose, Transmitting.heard}, proofs.Under.value_of}
use Rattle.vs_device_parts.proofs.Under.{value_changed}
use Rattle.vs_device.{proofs.{Verdicts.{known, may_leave}, device.Device.on_known.Goals.After-on_packet-verdict}, specs.contracts.device.Device.the_view}
use Rattle.vs_device.proofs.device.Device.on_known.Goals as goal

-- the connection, before its end heard the packet and after it
module _ (g : _) (c : After-on_packet-verdict g) where
  before : value_under c.self.inside.slots c.args.slot ≡ Some c.requires.there.0.value
  before = value_of c.self.inside.slots c.args.slot c.requires.there.0 (rw (← c.self.view_is) at c.requires.there.1)

  after : value_under c.on_packet-verdict.new.self c.args.slot ≡ Some (heard c.args.header.now c.requires.there.0.value)
  after =
      ap (λ (t : Table DeviceConnection). value_under t c.args.slot) (c.on_packet-verdict.ensures.left _ before)
      ∙ value_changed c.self.inside.slots c.args.slot c.requires.there.0 _ (rw (← c.self.view_is) at c.requires.there.1)

pub after_verdict-requires-clause-delivers : goal.after_verdict-requires-clause-delivers
after_verdict-requires-clause-delivers g c = λ deliver.
    let k = (goal.at.after_verdict-requires-clause-delivers g c).After-on_packet-verdict in rw (after g k) (c.on_packet-verdict.ensures.room _ (before g k) deliver)

pub after_verdict-requires-clause-most : goal.after_verdict-requires-clause-most
after_verdict-requires-clause-most g c = λ deliver.
    let k = (goal.at.after_verdict-requires-clause-most g c).After-on_packet-verdict in c.on_packet-verdict.ensures.most _ (before g k) deliver

pub after_verdict-requires-clause-delivered : goal.after_verdict-requires-clause-delivered
after_verdict-requires-clause-delivered g c = λ deliver.
    let k = (goal.at.after_verdict-requires-clause-delivered g c).After-on_packet-verdict in rw (after g k) (c.on_packet-verdict.ensures.delivers _ (before g k) deliver)

pub after_verdict-requires-clause-accepted : goal.after_verdict-requires-clause-accepted
after_verdict-requires-clause-accepted g c = λ accept.
    let k = (goal.at.after_verdict-requires-clause-accepted g c).After-on_packet-verdict in rw (after g k) (c.on_packet-verdict.ensures.accepts _ (before g k) accept)

pub after_verdict-requires-clause-may : goal.after_verdict-requires-clause-may
after_verdict-requires-clause-may g c = λ peer reset f is_now.
    let k = (goal.at.after_verdict-requires-clause-may g c).After-on_packet-verdict in
    let e = c.requires.there.0 in
    let may = may_leave c.args.chain.now c.args.header.now e c.args.self.now c.on_packet-verdict.result _
    (c.on_packet-verdict.ensures.verdict e.value (before g k)) peer reset (c.requires.may e c.requires.there.1) in
    let both : Some (heard c.args.header.now e.value) ≡ Some f.value = sym (after g k) ∙ value_of c.on_packet-verdict.new.self c.args.slot f is_now in
    let same : heard c.args.header.now e.value ≡ f.value = cc in
    subst (λ (u : DeviceConnection). MayClose u (g.H.HostNet.contents c.args.host.now)) same may

pub returns-clause-calls : goal.returns-clause-calls
returns-clause-calls g c = λ e is.
    let d = c.self.inside in
    let value : value_under d.slots c.args.slot ≡ Some e.value = value_of d.slots c.args.slot e (rw (← c.self.view_is) at is) in
    let was : the_view (record d { slots = c.on_packet-verdict.new.self }) ≡ with_connection c.args.slot (heard c.args.header.now e.value) c.args.self.now =
    ap (λ (t : Table DeviceConnection). the_view (record d { slots = t })) (c.on_packet-verdict.ensures.left e.value value)
    ∙ ap (λ (x : DeviceState). with_connection c.args.slot (heard c.args.header.now e.value) x) c.self.view_is in
    known c.args.chain.now c.args.header.now e c.args.self.now _ _ _ _ (c.on_packet-verdict.ensures.verdict e.value value)
    (c.after_verdict.ensures.calls c.args.self.now e is was)
