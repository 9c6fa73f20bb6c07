use Rattle.std.proofs.Common.{◌≡◌, length, Some, ap, ◌∙◌, rules}
use Rattle.vs_flow.specs.Table.{entry_under}
use Rattle.vs_device_parts.{specs.{Connections.{with_connection, after_shut, after_written}, State.DeviceState, Streams.to_write}, proofs.Under.{has_slot, value_of}}
use Rattle.vs_device.{specs.contracts.device.Device.the_view, proofs.{Leaving.changed, Pumping.{write_failed, took_within}, Written.written_within}}
use Rattle.vs_device.proofs.device.Device.write_answered.Goals as goal

pub written-requires : goal.written-requires
written-requires g c =
    written_within c.self.inside.slots c.args.slot c.in-Took.n (λ e is.
    took_within c.in-Took.n (length (to_write e.value)) c.args.answer c.in-Took.is (c.requires.some e (rw (← c.self.view_is) is)))

pub returns-in-Took-clause-calls : goal.returns-in-Took-clause-calls
returns-in-Took-clause-calls g c = λ e is ring.
    let found : entry_under c.self.inside.slots c.args.slot ≡ Some e = rw (← c.self.view_is) at is in
    let end = changed (the_view c.self.inside) c.args.self.now c.args.slot e (after_written c.in-Took.n e.value) c.written.new.self c.self.view_is
    (c.written.ensures.left e.value (value_of c.self.inside.slots c.args.slot e found)) (has_slot c.self.inside.slots c.args.slot e found) in
    search (rules, c.in-Took.is, end)

pub returns-in-Closed-clause-calls : goal.returns-in-Closed-clause-calls
returns-in-Closed-clause-calls g c = λ e is ring.
    let d = c.self-in-Closed.inside in
    let found : entry_under d.slots c.args.slot ≡ Some e = rw (← c.self-in-Closed.view_is) at is in
    let end = changed (the_view d) c.args.self.now c.args.slot e (after_shut 1 d.moment e.value) c.shut.new.self c.self-in-Closed.view_is
    (c.shut.ensures.left e.value (value_of d.slots c.args.slot e found)) (has_slot d.slots c.args.slot e found) in
    let same = ap (λ (s : DeviceState). with_connection e.slot (after_shut 1 s.now e.value) c.args.self.now) c.self-in-Closed.view_is in
    let all = end ∙ same in search (rules, c.in-Closed.is, all)

pub returns-in-Failed-clause-calls : goal.returns-in-Failed-clause-calls
returns-in-Failed-clause-calls g c = λ e is ring.
    let found : entry_under c.count_fault.new.self.table c.args.slot ≡ Some e = rw c.count_fault.ensures is in
    let cut = c.cut_off.ensures.calls e found in
    write_failed e c.args.self.now c.args.wrote.now c.args.answer c.cut_off.new.self _ _ c.in-Failed.is ((rw c.count_fault.ensures at cut) ring)
