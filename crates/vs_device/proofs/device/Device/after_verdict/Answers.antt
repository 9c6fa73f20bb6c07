use Rattle.std.proofs.Common.{◌≡◌, ◌++◌, [], cond, Some, refl, sym, ◌∙◌, rules}
use Rattle.vs_flow.specs.Table.{entry_under, with_value}
use Rattle.vs_uds.specs.OkLine.{ok_text}
use Rattle.vs_device_parts.{specs.{State.DeviceConnection, Transmitting.heard}, proofs.Under.{value_of, with_its}}
use Rattle.vs_device.{proofs.{Verdicts.{heard_in, refuses, counted_refusal}, Leaving.changed_twice}, specs.contracts.device.Device.the_view}
use Rattle.vs_device.proofs.device.Device.after_verdict.Goals as goal

pub returns-in-Accept-clause-calls : goal.returns-in-Accept-clause-calls
returns-in-Accept-clause-calls g c = λ s e is was.
    let k = heard_in s _ c.args.slot e (heard c.args.header.now e.value) is was in
    let d = c.self.inside in
    let line : DeviceConnection = record (heard c.args.header.now e.value) { ok_line = cond e.value.by_client (ok_text e.flow.host) [] } in
    let held : entry_under d.slots c.args.slot ≡ Some (with_its e (heard c.args.header.now e.value)) = rw (← c.self.view_is) at k.there in
    let end = changed_twice s (the_view d) c.args.slot e _ line c.accept.new.self (c.self.view_is ∙ was) (c.accept.ensures.left _ held) k.at in
    search (rules, c.in-Accept.is, end)

pub returns-in-Deliver-clause-calls : goal.returns-in-Deliver-clause-calls
returns-in-Deliver-clause-calls g c = λ s e is was.
    let k = heard_in s _ c.args.slot e (heard c.args.header.now e.value) is was in
    let more : DeviceConnection = record (heard c.args.header.now e.value) { pending = e.value.pending ++ c.deliver.ensures.calls.0 } in
    let end = c.deliver.ensures.calls.2 _ (value_of c.args.self.now.table c.args.slot (with_its e (heard c.args.header.now e.value)) k.there)
    ∙ changed_twice s c.args.self.now c.args.slot e _ more (with_value c.args.self.now.table c.args.slot more) was refl k.at in
    rw c.in-Deliver.is (c.deliver.ensures.calls.0, _, c.deliver.ensures.calls.1 _ _, (sym end, refl))

pub returns-in-Peer-clause-calls : goal.returns-in-Peer-clause-calls
returns-in-Peer-clause-calls g c = λ s e is was. rw c.in-Peer.is (c.after_message.ensures.calls s e is was c.args.chain.now _)

pub returns-in-Rst-clause-calls : goal.returns-in-Rst-clause-calls
returns-in-Rst-clause-calls g c = λ s e is was.
    let k = heard_in s _ c.args.slot e (heard c.args.header.now e.value) is was in
    rw c.in-Rst.is (refuses c.args.chain.now c.args.header.now e s _ c.in-Rst.why _
    (c.count_refused.ensures ∙ counted_refusal c.args.chain.now c.args.header.now e s c.count_refused.new.self c.in-Rst.why c.args.self.now k.here))

pub returns-in-Discard-clause-calls : goal.returns-in-Discard-clause-calls
returns-in-Discard-clause-calls g c = λ s e is was.
    let k = heard_in s _ c.args.slot e (heard c.args.header.now e.value) is was in search (rules, c.in-Discard.is, k.here)

pub returns-in-Ignore-clause-calls : goal.returns-in-Ignore-clause-calls
returns-in-Ignore-clause-calls g c = λ s e is was.
    let k = heard_in s _ c.args.slot e (heard c.args.header.now e.value) is was in search (rules, c.in-Ignore.is, k.here)
