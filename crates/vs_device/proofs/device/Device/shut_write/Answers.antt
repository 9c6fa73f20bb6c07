use Rattle.std.proofs.Common.{◌≡◌, ℕ, true, sym, ap, subst, ◌∙◌, rules}
use Rattle.vs_flow.specs.Table.{Table, with_value}
use Rattle.vs_device_parts.specs.{State.{DeviceConnection, DeviceEntry, DeviceState}, Calls.{Allows, ShutWrite}, Connections.with_connection, Playing.{Runs, situation}}
use Rattle.vs_device_parts.{specs.{Streams.{shut_write, is_written_out}, Written.writing}, proofs.Under.{under, value_of}}
use Rattle.vs_device.{specs.contracts.device.Device.the_view, proofs.Pumping.was_shut}
use Rattle.vs_device.proofs.device.Device.shut_write.Goals as goal

pub returns-clause-calls : goal.returns-clause-calls
returns-clause-calls g c = λ n ring.
    let d = c.self.inside in
    let s : DeviceState = the_view d in
    let x = situation ring (g.H.HostNet.contents c.args.host.now) (g.H.HostNet.faults c.args.host.now) in
    let y = situation ring (g.H.HostNet.contents c.shut_write.new.host) (g.H.HostNet.faults c.shut_write.new.host) in
    let u = under d.slots c.args.slot c.in-Some.connection.now (search rules) in
    let e : DeviceEntry = u.entry in
    let is : is_written_out e.value ≡ true = ap is_written_out u.value ∙ search rules in
    let slots : c.write_shut.new.self ≡ with_value d.slots c.args.slot (record e.value { write_shut = true }) = c.write_shut.ensures.left e.value (value_of d.slots c.args.slot e u.found) in
    let t : DeviceState = the_view (record d { slots = c.write_shut.new.self }) in
    let end : t ≡ with_connection c.args.slot (record e.value { write_shut = true }) s = ap (λ (v : Table DeviceConnection). the_view (record d { slots = v })) slots in
    let P : ℕ → Type 0 = λ id. Allows (ShutWrite id) tt x y in
    let id : c.stream.result ≡ e.value.stream = c.stream.ensures ∙ ap (λ (v : DeviceConnection). v.stream) (sym u.value) in
    let Q : DeviceState → Type 0 = λ v. Runs (shut_write c.args.slot (writing v n)) x (writing t n) y in
    subst Q c.self.view_is (was_shut c.args.slot (writing s n) e u.found x y t is (subst P id (c.shut_write.ensures ring)) end)
