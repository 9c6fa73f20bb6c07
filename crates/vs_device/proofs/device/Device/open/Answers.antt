use Rattle.std.proofs.Common.{◌≡◌, None, rules}
use Rattle.vs_flow.specs.Table.{refusal}
use Rattle.vs_device_parts.specs.{Connections.with_client, State.DeviceState}
use Rattle.vs_device.{specs.contracts.device.Device.the_view, proofs.{Resetting.opened, Ordered.{open_honest, open_streams}, Accounted.open_accounted}}
use Rattle.vs_device.proofs.device.Device.open.Goals as goal

pub returns-clause-calls : goal.returns-clause-calls
returns-clause-calls g c = λ ring.
    let s : DeviceState = c.args.self.now in
    let accepted : refusal s.table c.args.flow ≡ None = rw (← c.self.view_is) (search rules) in
    let d = c.self.inside in
    let t : DeviceState = the_view (record d { slots = c.open_client-slot.new.self; clean = c.remove.new.self; opened = c.saturating_add-self-inside.result }) in
    let end : t ≡ with_client c.args.flow c.args.stream s = rw (← c.self.view_is) (search rules) in
    let at : c.open_client-slot.result ≡ s.table.given = rw (← c.self.view_is) c.open_client-slot.ensures.slot in
    opened c.args.flow c.args.stream s accepted t c.open_client-slot.result _ _ (c.label.ensures ring) end at

pub returns-clause-streams : goal.returns-clause-streams
returns-clause-streams g c = open_streams c.args.self.now _ _ c.args.flow c.args.stream _ (returns-clause-calls g c c.requires.may.0)

pub returns-clause-honest : goal.returns-clause-honest
returns-clause-honest g c = λ first port ring.
    open_honest c.args.self.now _ _ c.args.flow c.args.stream _ (record { guest = search rules; host = search rules; peer = search rules })
    (returns-clause-calls g c ring) first port

pub returns-clause-bytes : goal.returns-clause-bytes
returns-clause-bytes g c = open_accounted c.args.self.now _ _ c.args.flow c.args.stream _ (returns-clause-calls g c c.requires.may.0)
