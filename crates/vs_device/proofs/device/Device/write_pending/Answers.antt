use Rattle.std.proofs.Common.{◌≡◌, ◌≢◌, length, Some, sym, ap, ◌∙◌, rules}
use Rattle.vs_flow.specs.Table.{entry_under}
use Rattle.vs_device_parts.{specs.{Calls.WriteStream, State.{DeviceConnection, DeviceEntry}, Playing.AllowsOnHost, Streams.to_write, Written.writing}, proofs.Under.value_is}
use Rattle.vs_device.proofs.{Pumping.{may_be_answered, wrote}, device.Device.write_pending.Goals.After-write-answer}
use Rattle.vs_device.proofs.device.Device.write_pending.Goals as goal

-- what was written is what was pending on the connection in the slot
module _ (g : _) (c : After-write-answer g) where
  value : (e : DeviceEntry) → entry_under c.args.self.now.table c.args.slot ≡ Some e → e.value ≡ c.in-Some.connection.now
  value e is = value_is c.self.inside.slots c.args.slot e _ (rw (← c.self.view_is) at is) (search rules)

  some : (e : DeviceEntry) → entry_under c.args.self.now.table c.args.slot ≡ Some e → length (to_write e.value) ≢ 0
  some e is = λ none. c.if-len-eq0.false (c.copy_to_write-len.ensures.count
      ∙ (ap (λ (v : DeviceConnection). length (to_write v)) (sym (value e is)) ∙ none))

  written : (e : DeviceEntry) → entry_under c.args.self.now.table c.args.slot ≡ Some e
      → AllowsOnHost (WriteStream e.value.stream (to_write e.value)) c.write-answer.result (g.H.HostNet.contents c.args.host.now)
      (g.H.HostNet.faults c.args.host.now) (g.H.HostNet.contents c.write-answer.new.host) (g.H.HostNet.faults c.write-answer.new.host)
  written e is =
      rw (value e is, ← c.stream.ensures, ← c.copy_to_write-len.ensures.copied) c.write-answer.ensures.calls

pub write_answered-requires-clause-may : goal.write_answered-requires-clause-may
write_answered-requires-clause-may g c = λ e is.
    let k = (goal.at.write_answered-requires-clause-may g c).After-write-answer in
    let may = c.requires.may e is in
    (may.0, may_be_answered e (writing c.args.self.now c.args.wrote.now) (some g k e is) _ _ _ may.1 (written g k e is may.0))

pub returns-clause-calls : goal.returns-clause-calls
returns-clause-calls g c = λ e is ring.
    let k = (goal.at.returns-clause-calls g c).After-write-answer in
    wrote e (writing c.args.self.now c.args.wrote.now) (some g k e is) _ _ _ _ _ (written g k e is ring) (c.write_answered.ensures.calls e is ring)
