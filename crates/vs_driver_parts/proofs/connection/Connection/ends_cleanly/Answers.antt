use Rattle.std.proofs.Common.{◌&&◌, Bool, sym, ap, ◌∙◌}
use Rattle.laws_history.specs.{Packets.is_clean_rst, declared.packet.Packet.Packet}
use Rattle.vs_driver_parts.proofs.connection.Connection.ends_cleanly.Goals as goal

pub returns-then-has_shut : goal.returns-then-has_shut
returns-then-has_shut c = λ payload.
    let p : Packet = record { header = c.args.header.now; payload = payload } in
    c.is_marked.ensures payload ∙ ap (λ (b : Bool). b && is_clean_rst p) (sym c.if-has_shut.true ∙ c.has_shut.ensures)
