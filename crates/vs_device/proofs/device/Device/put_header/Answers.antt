use Rattle.std.proofs.Common.{◌≡◌, ◌+◌, ◌≤◌, true, false, Option, Some, None, sym, ap, ◌∙◌, arith}
use Rattle.vs_header.specs.declared.TheConstants.{HEADER_LEN}
use Rattle.vs_contents.proofs.Leads.{leads_to}
use Rattle.vs_ring_port.specs.declared.device_ring.Chain.{Chain}
use Rattle.vs_device_parts.specs.{Filling.filling_of, Playing.beside, Receiving.Filling, State.DeviceState}
use Rattle.vs_device.{proofs.{Putting.{header_put, header_waits, may_write}, Among.{beside_one, held_one, none_among}}, specs.contracts.device.Device.the_view}
use Rattle.vs_device.proofs.device.Device.put_header.Goals as goal

pub returns-in_default-clause-calls : goal.returns-in_default-clause-calls
returns-in_default-clause-calls g c = λ host faults.
    let d = c.self.inside in
    let q : Filling = filling_of c.hold.new.self c.hold.new.fill in
    let is : c.hold.new.self.chain ≡ None = rw (← c.self.view_is) (sym c.in_default.ensures.value) in
    let state : c.hold.new.self ≡ the_view (record d { chain = c.take.new.self }) =
    rw (← c.self.view_is) (ap (λ (o : Option Chain). the_view (record d { chain = o })) (sym (c.in_default.ensures.after ∙ c.in_default.ensures.value))) in
    leads_to _ _ _ _ _ _ (ap (λ (s : DeviceState). (record q { state = s }, false)) state)
    (header_waits c.args.header.now (filling_of c.args.self.now c.args.fill.now) q _ _ (c.hold.ensures.calls host faults) is)

pub write_packet-requires-clause-may : goal.write_packet-requires-clause-may
write_packet-requires-clause-may g c =
    let held : c.hold.new.self.chain ≡ Some c.in-Some.chain = rw (← c.self.view_is) (sym c.in-Some.ensures.value) in
    let host = c.requires.may.0 in
    let faults = c.requires.may.1 in (
      host,
      faults,
      may_write c.args.header.now (filling_of c.args.self.now c.args.fill.now) _ _ _ (c.hold.ensures.calls host faults) c.in-Some.chain held
          c.requires.may.2,
    )

pub returns-clause-calls : goal.returns-clause-calls
returns-clause-calls g c = λ host faults.
    let d = c.self.inside in
    let held : c.hold.new.self.chain ≡ Some c.in-Some.chain = rw (← c.self.view_is) (sym c.in-Some.ensures.value) in
    let q : Filling = filling_of c.hold.new.self c.hold.new.fill in
    let state : record c.hold.new.self { chain = None } ≡ the_view (record d { chain = c.take.new.self }) =
    sym (ap (λ (o : Option Chain). the_view (record d { chain = o })) c.in-Some.ensures.after ∙ ap (λ (s : DeviceState). record s { chain = None }) c.self.view_is) in
    leads_to _ _ _ _ _ _ (ap (λ (s : DeviceState). (record q { state = s; put = q.put + 1 }, true)) state)
    (header_put c.args.header.now (filling_of c.args.self.now c.args.fill.now) q _ _ (c.hold.ensures.calls host faults) c.in-Some.chain _ held
    (c.write_packet.ensures.calls host faults))

pub write_packet-requires-clause-is_held : goal.write_packet-requires-clause-is_held
write_packet-requires-clause-is_held g c =
    let held : c.hold.new.self.chain ≡ Some c.in-Some.chain = rw (← c.self.view_is) (sym c.in-Some.ensures.value) in
    (held_one c.hold.new.self.chain _ _ held c.hold.ensures.ring).0

pub write_packet-requires-clause-room : goal.write_packet-requires-clause-room
write_packet-requires-clause-room g c =
    let held : c.hold.new.self.chain ≡ Some c.in-Some.chain = rw (← c.self.view_is) (sym c.in-Some.ensures.value) in
    let long : HEADER_LEN + 1 ≤ c.in-Some.chain.writable = (held_one c.hold.new.self.chain _ _ held c.hold.ensures.ring).1.1 in
    omega (arith, long)

pub returns-clause-ring : goal.returns-clause-ring
returns-clause-ring g c = none_among _ _ c.in-Some.ensures.after

pub returns-clause-beside : goal.returns-clause-beside
returns-clause-beside g c =
    let held : c.hold.new.self.chain ≡ Some c.in-Some.chain = rw (← c.self.view_is) (sym c.in-Some.ensures.value) in
    ap (λ (o : Option Chain). beside o (g.R.DeviceRing.held c.write_packet.new.ring)) c.in-Some.ensures.after
    ∙ (c.write_packet.ensures.held ∙ (beside_one _ _ _ held ∙ c.hold.ensures.beside))
