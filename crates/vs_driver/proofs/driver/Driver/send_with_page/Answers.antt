use Rattle.std.{proofs.Common.{◌≡◌, ℕ, true, Some, ◌++◌, length, sym, ap, subst, ◌∙◌, rules}, specs.Option.option_map}
use Rattle.vs_header.specs.{Packet.header_bytes, declared.Header.Header}
use Rattle.vs_conn.specs.{End.with_payload_sent, Headers.payload_header}
use Rattle.vs_flow.specs.Table.{entry_under}
use Rattle.vs_driver_parts.specs.{State.{DriverConnection, DriverEntry, DriverState}, Playing.{MayPublishAll, Plays}, Conversations.{post_packet, one_more_in_flight, has_page}}
use Rattle.vs_driver_parts.{specs.{Held.HeldSlots, Connections.{with_connection, with_end, route_to_host}}, proofs.{Ids.{value_of, has_slot}, Known.some_inj}}
use Rattle.vs_driver.{specs.contracts.driver.Driver.the_view, proofs.Sending.{there, may_post_payload, payload_posted}}
use Rattle.vs_driver.proofs.driver.Driver.send_with_page.Goals as goal

header_is : (e : DriverEntry) (h : Header) (d s : DriverState) (slot len : ℕ) → d ≡ s → entry_under s.table slot ≡ Some e
    → Some h ≡ option_map (λ x. payload_header x.value.end (route_to_host d.cid x.flow) len) (entry_under d.table slot)
    → h ≡ payload_header e.value.end (route_to_host s.cid e.flow) len
header_is e h d s slot len same found is =
    let P : DriverState → Type 0 = λ x. Some h ≡ option_map (λ y. payload_header y.value.end (route_to_host x.cid y.flow) len)
    (entry_under x.table slot) in
    some_inj h _ (subst P same is ∙ ap (option_map (λ (x : DriverEntry). payload_header x.value.end
    (route_to_host s.cid x.flow) len)) found)

pub post_packet-requires-clause-may : goal.post_packet-requires-clause-may
post_packet-requires-clause-may g c =
    let free : has_page c.args.self.now ≡ true = search rules in
    let t = there (entry_under c.args.self.now.table c.args.slot) c.requires.held in
    let head = header_is t.one c.in-Some.header (the_view c.self.inside) c.args.self.now c.args.slot (length c.args.payload.now)
    c.self.view_is t.is c.in-Some.ensures in
    let P : Header → Type 0 = λ h. MayPublishAll (post_packet (header_bytes h ++ c.args.payload.now) c.args.self.now) (g.R.DriverRing.contents c.args.ring.now) in
    subst P (sym head) (may_post_payload t.one c.args.payload.now c.args.self.now _ free (c.requires.may t.one t.is))

pub returns-clause-calls : goal.returns-clause-calls
returns-clause-calls g c = λ e is.
    let free : has_page c.args.self.now ≡ true = search rules in
    let head = header_is e c.in-Some.header (the_view c.self.inside) c.args.self.now c.args.slot (length c.args.payload.now)
    c.self.view_is is c.in-Some.ensures in
    let d = c.self-2.inside in
    let P : Header → Type 0 = λ h. Plays (post_packet (header_bytes h ++ c.args.payload.now) c.args.self.now) (g.R.DriverRing.contents c.args.ring.now) c.post_packet.new.self (g.R.DriverRing.contents c.post_packet.new.ring) in
    let same : the_view d ≡ one_more_in_flight c.args.self.now = c.self-2.view_is ∙ c.post_packet.ensures.state in
    let found : entry_under d.slots.table c.args.slot ≡ Some e = ap (λ (s : DriverState). entry_under s.table c.args.slot) same ∙ is in
    let v : DriverConnection = e.value in
    let s : DriverState = the_view d in
    let state : the_view (record d { slots = c.sent.new.self }) ≡ with_end (with_payload_sent e.value.end (length c.args.payload.now)) e c.post_packet.new.self =
    rw (← c.self-2.view_is) (ap (λ (h : HeldSlots). the_view (record d { slots = h }))
    (c.sent.ensures.left v (value_of d.slots.table c.args.slot e found))
    ∙ ap (λ (n : ℕ). with_connection n (record v { end = with_payload_sent v.end (length c.args.payload.now) }) s) (sym (has_slot d.slots.table c.args.slot e found))) in
    payload_posted e c.args.payload.now c.args.self.now _ free c.post_packet.new.self (the_view (record d { slots = c.sent.new.self })) _
    (subst P head c.post_packet.ensures.calls) state
