use Rattle.std.proofs.Common.{◌≡◌, Some, refl, sym}
use Rattle.vs_contents.proofs.Leads.{leads_to}
use Rattle.vs_flow.specs.Table.{entry_under, with_value}
use Rattle.vs_device_parts.{specs.Calls.Allows, specs.Connections.cut_off, proofs.Under.has_slot, proofs.Under.value_of}
use Rattle.vs_device.{specs.contracts.device.Device.the_view, proofs.Leaving.changed}
use Rattle.vs_device.proofs.device.Device.cut_off.Goals as goal

pub returns-clause-calls : goal.returns-clause-calls
returns-clause-calls g c = λ e is ring.
    let d = c.self.inside in
    let found : entry_under d.slots c.args.slot ≡ Some e = rw (← c.self.view_is) at is in
    let slots : c.cut_off.new.self ≡ with_value d.slots c.args.slot (cut_off e.value) = c.cut_off.ensures.left e.value (value_of d.slots c.args.slot e found) in
    let end = changed (the_view d) c.args.self.now c.args.slot e (cut_off e.value) c.cut_off.new.self c.self.view_is slots (has_slot d.slots c.args.slot e found) in
    leads_to Allows _ _ _ _ _ (sym end) (c.close_stream.ensures.calls e is e refl refl cut_off c.args.self.now ring)
