use Rattle.std.proofs.Common.{◌≡◌, ℕ, List, length, Option, Some, None, sym, ap, subst, ◌∙◌}
use Rattle.vs_contents.proofs.Leads.{leads_to}
use Rattle.vs_conn.specs.{End.with_payload_sent, Headers.payload_header}
use Rattle.vs_flow.specs.Table.{Table, entry_under, with_value}
use Rattle.vs_header.specs.declared.Header.{Header}
use Rattle.vs_ring_port.specs.declared.device_ring.Chain.{Chain}
use Rattle.vs_device_parts.specs.{Calls.Allows, Connections.{with_connection, route_to_guest}, Filling.filling_of, Playing.{MayRun, Runs, beside, situation}, Receiving.Filling}
use Rattle.vs_device_parts.{specs.{Receiving.{written, put_payload}, State.{DeviceConnection, DeviceEntry, DeviceState}}, proofs.Under.{has_slot, value_of}}
use Rattle.vs_device.{specs.contracts.device.Device.the_view, proofs.{Among.{beside_one, held_one, none_among}, Paying.mapped, Reading.{header, after_payload, payload_put}}}
use Rattle.vs_device.proofs.Reading.{may_put}
use Rattle.vs_device.proofs.device.Device.put_payload.Goals as goal

pub write_packet-requires-clause-may : goal.write_packet-requires-clause-may
write_packet-requires-clause-may g c =
    let d = c.self.inside in
    let s : DeviceState = c.args.self.now in
    let payload : List ℕ = c.args.payload.now in
    let r : Filling = filling_of s c.args.fill.now in
    let h = mapped (λ (e : DeviceEntry). payload_header e.value.end (route_to_guest d.cid e.flow) (length payload)) (entry_under d.slots c.args.slot) c.in-Some.header c.in-Some.ensures in
    let found : entry_under s.table c.args.slot ≡ Some h.one = ap (λ (x : DeviceState). entry_under x.table c.args.slot) (sym c.self.view_is) ∙ h.is in
    let held : s.chain ≡ Some c.in-Some-take.chain = ap (λ (x : DeviceState). x.chain) (sym c.self.view_is) ∙ sym c.in-Some-take.ensures.value in
    let head : c.in-Some.header ≡ header c.in-Some-take.chain h.one payload r =
    h.holds ∙ ap (λ (x : DeviceState). payload_header h.one.value.end (route_to_guest x.cid h.one.flow) (length payload)) c.self.view_is in
    let may = c.requires.may h.one c.in-Some-take.chain found held in
    let from = situation (g.R.DeviceRing.contents c.args.ring.now) may.0 may.1 in
    let P : Header → Type 0 = λ x. MayRun (written c.in-Some-take.chain x payload) from in
    (may.0, may.1, subst P (sym head) (may_put c.in-Some-take.chain h.one payload r from may.2))

pub returns-clause-calls : goal.returns-clause-calls
returns-clause-calls g c = λ e chain is held host faults.
    let d = c.self.inside in
    let s : DeviceState = c.args.self.now in
    let slot = c.args.slot in
    let payload : List ℕ = c.args.payload.now in
    let r : Filling = filling_of s c.args.fill.now in
    let from = situation (g.R.DeviceRing.contents c.args.ring.now) host faults in
    let to = situation (g.R.DeviceRing.contents c.write_packet.new.ring) host faults in
    let h = mapped (λ (x : DeviceEntry). payload_header x.value.end (route_to_guest d.cid x.flow) (length payload)) (entry_under d.slots slot) c.in-Some.header c.in-Some.ensures in
    let found : entry_under d.slots slot ≡ Some e = ap (λ (x : DeviceState). entry_under x.table slot) c.self.view_is ∙ is in
    let same : h.one ≡ e = let both : Some h.one ≡ Some e = sym h.is ∙ found in cc in
    let taken : c.in-Some-take.chain ≡ chain = let both : Some c.in-Some-take.chain ≡ Some chain = c.in-Some-take.ensures.value ∙ (ap (λ (x : DeviceState). x.chain) c.self.view_is ∙ held) in cc in
    let head : c.in-Some.header ≡ header chain e payload r =
    h.holds ∙ (ap (λ (x : DeviceEntry). payload_header x.value.end (route_to_guest d.cid x.flow) (length payload)) same
    ∙ ap (λ (x : DeviceState). payload_header e.value.end (route_to_guest x.cid e.flow) (length payload)) c.self.view_is) in
    let P : Header → Type 0 = λ x. Runs (written c.in-Some-take.chain x payload) from tt to in
    let Q : Chain → Type 0 = λ x. Runs (written x (header chain e payload r) payload) from tt to in
    let writes = subst Q taken (subst P head (c.write_packet.ensures.calls host faults)) in
    let v : DeviceConnection = record e.value { end = with_payload_sent e.value.end (length payload) } in
    let slots = c.sent.ensures.left e.value (value_of d.slots slot e found) in
    let state : the_view (record d { slots = c.sent.new.self; chain = c.take.new.self; last_put = Some slot }) ≡ record (with_connection e.slot v (record s { chain = None })) { last_put = Some e.slot } =
    ap (λ (t : Table DeviceConnection). the_view (record d { slots = t; chain = c.take.new.self; last_put = Some slot })) slots
    ∙ (ap (λ (o : Option Chain). the_view (record d { slots = with_value d.slots slot v; chain = o; last_put = Some slot })) c.in-Some-take.ensures.after
    ∙ (ap (λ (x : DeviceState). record (with_connection slot v (record x { chain = None })) { last_put = Some slot }) c.self.view_is
    ∙ ap (λ (n : ℕ). record (with_connection n v (record s { chain = None })) { last_put = Some n }) (sym (has_slot d.slots slot e found)))) in
    let p : Filling = after_payload chain e payload r in
    leads_to Allows (put_payload chain e payload r) from to p (record p { state = the_view (record d { slots = c.sent.new.self; chain = c.take.new.self; last_put = Some slot }) })
    (ap (λ (x : DeviceState). record p { state = x }) (sym state)) (payload_put chain e payload r from to writes)

pub write_packet-requires-clause-is_held : goal.write_packet-requires-clause-is_held
write_packet-requires-clause-is_held g c =
    let is : c.args.self.now.chain ≡ Some c.in-Some-take.chain = ap (λ (x : DeviceState). x.chain) (sym c.self.view_is) ∙ sym c.in-Some-take.ensures.value in
    (held_one c.args.self.now.chain c.in-Some-take.chain (g.R.DeviceRing.held c.args.ring.now) is c.requires.ring).0

pub returns-clause-ring : goal.returns-clause-ring
returns-clause-ring g c = none_among _ _ c.in-Some-take.ensures.after

pub returns-clause-beside : goal.returns-clause-beside
returns-clause-beside g c =
    let is : c.args.self.now.chain ≡ Some c.in-Some-take.chain = ap (λ (x : DeviceState). x.chain) (sym c.self.view_is) ∙ sym c.in-Some-take.ensures.value in
    ap (λ (o : Option Chain). beside o (g.R.DeviceRing.held c.write_packet.new.ring)) c.in-Some-take.ensures.after
    ∙ (c.write_packet.ensures.held ∙ beside_one c.args.self.now.chain c.in-Some-take.chain (g.R.DeviceRing.held c.args.ring.now) is)
