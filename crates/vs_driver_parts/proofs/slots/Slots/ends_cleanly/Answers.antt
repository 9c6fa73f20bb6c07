use Rattle.std.proofs.Common.{◌≡◌, ◌&&◌, Some, sym, ap, ◌∙◌, rules}
use Rattle.vs_conn.specs.Shut.{is_both}
use Rattle.vs_flow.specs.Table.{entry_under, value_under}
use Rattle.laws_history.specs.{Packets.is_clean_rst, declared.packet.Packet.Packet}
use Rattle.vs_driver_parts.{specs.State.DriverConnection, proofs.Ids.value_of}
use Rattle.vs_driver_parts.proofs.slots.Slots.ends_cleanly.Goals as goal

pub returns-in-Some : goal.returns-in-Some
returns-in-Some c = λ e payload found.
    let p : Packet = record { header = c.args.header.now; payload = payload } in
    let t = c.self.inside.table in
    let is : value_under t c.args.slot ≡ Some c.in-Some.connection.now = search rules in
    let there : entry_under t c.args.slot ≡ Some e = rw (← c.self.view_is) at found in
    let both : Some c.in-Some.connection.now ≡ Some e.value = sym is ∙ value_of t c.args.slot e there in
    let same : c.in-Some.connection.now ≡ e.value = cc in
    c.ends_cleanly.ensures payload ∙ ap (λ (d : DriverConnection). is_both d.end.own && is_clean_rst p) same
