use Rattle.std.proofs.Common.{◌≡◌, true, Some, is_some, sym, ap, ◌∙◌, rules}
use Rattle.vs_flow.specs.Table.{entry_under, value_under}
use Rattle.vs_device_parts.{specs.State.DeviceState, proofs.Under.some_value}
use Rattle.vs_device.proofs.Resetting.{closes}
use Rattle.vs_device.proofs.device.Device.close_slot.Goals as goal

pub returns-then-is_some-clause-calls : goal.returns-then-is_some-clause-calls
returns-then-is_some-clause-calls g c = λ ring.
    let s : DeviceState = c.args.self.now in
    let d = c.self.inside in
    let there : is_some (value_under d.slots c.args.slot) ≡ true = search rules in
    let e = some_value d.slots c.args.slot there in
    let found : entry_under s.table c.args.slot ≡ Some e.0 = ap (λ (t : DeviceState). entry_under t.table c.args.slot) (sym c.self.view_is) ∙ e.1 in
    closes c.args.slot s e.0 c.drop_stream.new.self _ _ found (c.drop_stream.ensures.calls e.0 found ring)
