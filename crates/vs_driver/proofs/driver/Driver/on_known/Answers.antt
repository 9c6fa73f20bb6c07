use Rattle.std.proofs.Common.{◌≡◌, true, false, Some, sym, ap, ◌∙◌}
use Rattle.vs_flow.specs.Table.{entry_under}
use Rattle.vs_driver_parts.{proofs.{Packets.{with_its, under_changed, refused, over, stays}, Ids.{value_of, has_slot}}, specs.{State.DriverState, Held.HeldSlots}}
use Rattle.vs_driver_parts.specs.{Connections.with_connection, Receiving.{after_packet, ends_connection}}
use Rattle.vs_driver.specs.contracts.driver.Driver.{the_view}
use Rattle.vs_conn.specs.{End.{verdict_of, is_refused}, declared.end.Verdict.Verdict}
use Rattle.laws_history.specs.declared.packet.Packet.{Packet}
use Rattle.vs_driver.proofs.driver.Driver.on_known.Goals as goal

pub returns-then-is_refused-clause-state : goal.returns-then-is_refused-clause-state
returns-then-is_refused-clause-state c = λ e is.
    let d = c.self.inside in
    let p : Packet = record { header = c.args.header.now; payload = c.args.payload.now } in
    let found : entry_under d.slots.table c.args.slot ≡ Some e = rw (← c.self.view_is) at is in
    let slot = has_slot d.slots.table c.args.slot e found in
    let value = value_of d.slots.table c.args.slot e found in
    let v = verdict_of e.value.end c.args.header.now in
    let verdict : c.on_packet-verdict.result ≡ v = c.on_packet-verdict.ensures.verdict e.value value in
    let m : DriverState = the_view (record d { slots = c.on_packet-verdict.new.self }) in
    let mid : m ≡ with_connection c.args.slot (after_packet v p e.value) c.args.self.now =
    rw (← c.self.view_is) (ap (λ (h : HeldSlots). the_view (record d { slots = h })) (c.on_packet-verdict.ensures.left e.value value)) in
    let there : entry_under m.table c.args.slot ≡ Some (with_its e (after_packet v p e.value)) =
    ap (λ (s : DriverState). entry_under s.table c.args.slot) mid ∙ under_changed c.args.self.now.table c.args.slot e (after_packet v p e.value) is slot in
    let refuses : is_refused v ≡ true = ap is_refused (sym verdict) ∙ (sym c.is_refused.ensures ∙ c.if-is_refused.true) in
    refused p e c.args.self.now c.args.slot slot v m c.refuse.new.self refuses mid (c.refuse.ensures.state (with_its e (after_packet v p e.value)) there)

pub returns-then-ends_connection-clause-state : goal.returns-then-ends_connection-clause-state
returns-then-ends_connection-clause-state c = λ e is.
    let d = c.self.inside in
    let p : Packet = record { header = c.args.header.now; payload = c.args.payload.now } in
    let found : entry_under d.slots.table c.args.slot ≡ Some e = rw (← c.self.view_is) at is in
    let slot = has_slot d.slots.table c.args.slot e found in
    let value = value_of d.slots.table c.args.slot e found in
    let v = verdict_of e.value.end c.args.header.now in
    let verdict : c.on_packet-verdict.result ≡ v = c.on_packet-verdict.ensures.verdict e.value value in
    let m : DriverState = the_view (record d { slots = c.on_packet-verdict.new.self }) in
    let mid : m ≡ with_connection c.args.slot (after_packet v p e.value) c.args.self.now =
    rw (← c.self.view_is) (ap (λ (h : HeldSlots). the_view (record d { slots = h })) (c.on_packet-verdict.ensures.left e.value value)) in
    let there : entry_under m.table c.args.slot ≡ Some (with_its e (after_packet v p e.value)) =
    ap (λ (s : DriverState). entry_under s.table c.args.slot) mid ∙ under_changed c.args.self.now.table c.args.slot e (after_packet v p e.value) is slot in
    let ends : ends_connection v c.args.header.now ≡ true = ap (λ (x : Verdict). ends_connection x c.args.header.now) (sym verdict) ∙ (sym c.ends_connection.ensures ∙ c.if-ends_connection.true) in
    over p e c.args.self.now c.args.slot slot v m c.leave.new.self c.ends_cleanly-cleanly.result (c.ends_cleanly-cleanly.ensures e c.args.payload.now found) ends mid
    (c.leave.ensures.state (with_its e (after_packet v p e.value)) there)

pub returns-else-ends_connection-clause-state : goal.returns-else-ends_connection-clause-state
returns-else-ends_connection-clause-state c = λ e is.
    let d = c.self.inside in
    let p : Packet = record { header = c.args.header.now; payload = c.args.payload.now } in
    let found : entry_under d.slots.table c.args.slot ≡ Some e = rw (← c.self.view_is) at is in
    let slot = has_slot d.slots.table c.args.slot e found in
    let value = value_of d.slots.table c.args.slot e found in
    let v = verdict_of e.value.end c.args.header.now in
    let verdict : c.on_packet-verdict.result ≡ v = c.on_packet-verdict.ensures.verdict e.value value in
    let m : DriverState = the_view (record d { slots = c.on_packet-verdict.new.self }) in
    let mid : m ≡ with_connection c.args.slot (after_packet v p e.value) c.args.self.now =
    rw (← c.self.view_is) (ap (λ (h : HeldSlots). the_view (record d { slots = h })) (c.on_packet-verdict.ensures.left e.value value)) in
    let there : entry_under m.table c.args.slot ≡ Some (with_its e (after_packet v p e.value)) =
    ap (λ (s : DriverState). entry_under s.table c.args.slot) mid ∙ under_changed c.args.self.now.table c.args.slot e (after_packet v p e.value) is slot in
    let takes : is_refused v ≡ false = ap is_refused (sym verdict) ∙ (sym c.is_refused.ensures ∙ c.if-is_refused.false) in
    let goes_on : ends_connection v c.args.header.now ≡ false = ap (λ (x : Verdict). ends_connection x c.args.header.now) (sym verdict) ∙ (sym c.ends_connection.ensures ∙ c.if-ends_connection.false) in
    stays p e c.args.self.now c.args.slot slot v m takes goes_on mid
