use Rattle.std.proofs.Common.{◌≡◌, ℕ, ◌+◌, ◌≤◌, length, take, Some, refl, sym, ap, subst, ◌∙◌, rules, arith}
use Rattle.vs_contents.proofs.{Leads.leads_bind, Conditions.may_first}
use Rattle.vs_conn.specs.End.{CanSend}
use Rattle.vs_flow.specs.Table.{entry_under}
use Rattle.vs_header.specs.declared.TheConstants.{HEADER_LEN}
use Rattle.vs_outside.specs.declared.host_net.StreamRead.{StreamRead}
use Rattle.vs_ring_port.specs.declared.device_ring.Chain.{Chain}
use Rattle.vs_wrap.specs.Wrap.{counted}
use Rattle.vs_device_parts.specs.{Connections.{with_fault, after_shut, cut_off, with_connection}, Filling.{bytes_read, filling_of}, Playing.{MayRun, RunsOnHost, situation}}
use Rattle.vs_device_parts.{specs.{Receiving.{Filling, read_answered}, State.{DeviceConnection, DeviceState}, Streams.closing}, proofs.Under.{has_slot, value_of}}
use Rattle.vs_device.{proofs.{Reading.{fits, got_some, if_some, none_read, was_read}, Leaving.{changed, may_close}, Among.held_one}, specs.contracts.device.Device.the_view}
use Rattle.laws_device.proofs.Filling.{can_send}
use Rattle.vs_device.proofs.device.Device.read_answered.Goals as goal

pub put_payload-requires-clause-room : goal.put_payload-requires-clause-room
put_payload-requires-clause-room g c =
    let u = was_read c.args.slot c.args.self.now c.args.answer c.requires.reads c.requires.some in
    let f = fits u.entry.value.end u.chain c.in-Got.n _ _ c.args.buffer.now (held_one c.args.self.now.chain u.chain _ u.held c.requires.ring).1.1
    refl refl (got_some c.args.answer c.in-Got.n _ c.in-Got.is u.some).0 (omega arith) in
    if_some _ u.chain (λ (x : Chain). HEADER_LEN + length (take c.in-Got.n c.args.buffer.now) ≤ x.writable) u.held f.within

pub put_payload-requires-clause-credit : goal.put_payload-requires-clause-credit
put_payload-requires-clause-credit g c =
    let u = was_read c.args.slot c.args.self.now c.args.answer c.requires.reads c.requires.some in
    let f = fits u.entry.value.end u.chain c.in-Got.n _ _ c.args.buffer.now (held_one c.args.self.now.chain u.chain _ u.held c.requires.ring).1.1
    refl refl (got_some c.args.answer c.in-Got.n _ c.in-Got.is u.some).0 (omega arith) in
    let conn : DeviceConnection = u.entry.value in
    if_some _ conn (λ (x : DeviceConnection). CanSend x.end (length (take c.in-Got.n c.args.buffer.now))) (value_of c.args.self.now.table c.args.slot u.entry u.found)
    (can_send conn.end _ u.reads f.credit)

pub put_payload-requires-clause-may : goal.put_payload-requires-clause-may
put_payload-requires-clause-may g c = λ e chain is held.
    (g.H.HostNet.contents c.args.host.now, g.H.HostNet.faults c.args.host.now, rw c.in-Got.is at (c.requires.may e chain is held))

pub cut_off-requires : goal.cut_off-requires
cut_off-requires g c = record {
  may = λ e found.
      let is : entry_under c.args.self.now.table c.args.slot ≡ Some e = rw (← c.self-in-Failed.view_is) found in
      let u = was_read c.args.slot c.args.self.now c.args.answer c.requires.reads c.requires.some in
      let q : Filling = filling_of c.args.self.now c.args.fill.now in
      let from = situation (g.R.DeviceRing.contents c.args.ring.now) (g.H.HostNet.contents c.args.host.now) (g.H.HostNet.faults c.args.host.now) in
      let P : StreamRead → Type 0 = λ a. MayRun (read_answered u.chain e a (bytes_read a c.args.buffer.now) q) from in
      may_close e cut_off (with_fault c.args.self.now) from (may_first _ _ (closing e cut_off (with_fault c.args.self.now)) _ from
      (subst P c.in-Failed.is (c.requires.may e u.chain is u.held)));
}

pub returns-in-Got-clause-calls : goal.returns-in-Got-clause-calls
returns-in-Got-clause-calls g c = λ e chain is held. rw c.in-Got.is (c.put_payload.ensures.calls e chain is held _ _)

pub returns-in-Again-clause-calls : goal.returns-in-Again-clause-calls
returns-in-Again-clause-calls g c = λ e chain is held. none_read chain e c.args.answer _ _ _ c.in-Again.is

pub returns-in-End-clause-calls : goal.returns-in-End-clause-calls
returns-in-End-clause-calls g c = λ e chain is held.
    let d = c.self.inside in
    let found : entry_under d.slots c.args.slot ≡ Some e = rw (← c.self.view_is) at is in
    let moment = ap (λ (x : DeviceState). with_connection e.slot (after_shut 2 x.now e.value) c.args.self.now) c.self.view_is in
    let state = changed (the_view d) c.args.self.now c.args.slot e (after_shut 2 d.moment e.value) c.shut.new.self c.self.view_is
    (c.shut.ensures.left e.value (value_of d.slots c.args.slot e found)) (has_slot d.slots c.args.slot e found) ∙ moment in
    rw c.in-End.is (ap (λ (x : DeviceState). record (filling_of c.args.self.now c.args.fill.now) { state = x }) (sym state), refl)

pub returns-in-Failed-clause-calls : goal.returns-in-Failed-clause-calls
returns-in-Failed-clause-calls g c = λ e chain is held.
    let d = c.self-in-Failed.inside in
    let count : c.saturating_add-self-inside.result ≡ counted d.faults = search rules in
    let state : the_view (record d { faults = c.saturating_add-self-inside.result }) ≡ with_fault c.args.self.now =
    rw (← c.self-in-Failed.view_is) (ap (λ (n : ℕ). the_view (record d { faults = n })) count) in
    let P : DeviceState → Type 0 = λ x. RunsOnHost (closing e cut_off x) (g.H.HostNet.contents c.args.host.now) (g.H.HostNet.faults c.args.host.now)
    c.cut_off.new.self (g.H.HostNet.contents c.cut_off.new.host) (g.H.HostNet.faults c.cut_off.new.host) in
    let closes = subst P state (c.cut_off.ensures.calls e (rw (← c.self-in-Failed.view_is) at is)) in
    rw c.in-Failed.is (leads_bind _ (closing e cut_off (with_fault c.args.self.now)) _ _ _ _ _ _ (closes _) (refl, refl))
