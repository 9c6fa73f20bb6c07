use Rattle.std.{proofs.Common.{◌≡◌, ◌&&◌, Bool, Some, ap, ◌∙◌, rules}, specs.Option.option_map}
use Rattle.vs_flow.specs.{CleanPairs.kept_if, Flow.host_asks, Table.entry_under, declared.flow.Flow.Flow}
use Rattle.vs_device_parts.{specs.Connections.stream_closed, specs.State.DeviceEntry, proofs.Under.has_slot}
use Rattle.vs_device.{specs.contracts.device.Device.the_view, proofs.Leaving.leaves, proofs.Leaving.left}
use Rattle.vs_wrap.specs.Wrap.{counted}
use Rattle.vs_device.proofs.device.Device.leave.Goals as goal

pub returns-clause-calls : goal.returns-clause-calls
returns-clause-calls g c = λ e is v closed stream ring.
    let d = c.self.inside in
    let found : entry_under d.slots c.args.slot ≡ Some e = rw (← c.self.view_is) at is in
    let f : DeviceEntry = record e { value = v } in
    let count : c.saturating_add-self-inside.result ≡ counted d.closed = search rules in
    let keep : Bool = c.args.cleanly && host_asks e.flow in
    let flow : c.in-Some.flow ≡ e.flow = let same : Some c.in-Some.flow ≡ Some e.flow = c.in-Some.ensures ∙ ap (option_map (λ (x : DeviceEntry). x.flow)) found in cc in
    let clean : c.keep_own.new.clean ≡ kept_if keep e.flow d.clean =
    c.keep_own.ensures ∙ ap (λ (g : Flow). kept_if (c.args.cleanly && host_asks g) g d.clean) flow in
    let end = left (the_view d) c.args.self.now c.args.slot f c.leave.new.self c.saturating_add-self-inside.result keep c.keep_own.new.clean c.self.view_is
    c.leave.ensures count clean (has_slot d.slots c.args.slot e found) in
    leaves keep f c.args.self.now _ _ _ (c.close_stream.ensures.calls e is f closed stream stream_closed c.args.self.now ring) end
