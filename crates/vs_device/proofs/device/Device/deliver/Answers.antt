use Rattle.std.proofs.Common.{◌≡◌, ℕ, ◌++◌, List, Some, ap, ◌∙◌}
use Rattle.vs_flow.specs.Table.{Table, value_under}
use Rattle.vs_device_parts.specs.{State.DeviceConnection, State.DeviceState, Connections.with_connection}
use Rattle.vs_device.specs.contracts.device.Device.{the_view}
use Rattle.vs_device.proofs.device.Device.deliver.Goals as goal

pub returns-clause-calls : goal.returns-clause-calls
returns-clause-calls g c =
    let d = c.self.inside in
    let bytes : List ℕ = c.deliver_into.ensures.calls.0 in (
      bytes,
      c.deliver_into.ensures.calls.1,
      λ v is.
          let value : value_under d.slots c.args.slot ≡ Some v = rw (← c.self.view_is) at is in
          ap (λ (t : Table DeviceConnection). the_view (record d { slots = t })) (c.deliver_into.ensures.calls.2 v value)
          ∙ ap (λ (x : DeviceState). with_connection c.args.slot (record v { pending = v.pending ++ bytes }) x) c.self.view_is,
    )
