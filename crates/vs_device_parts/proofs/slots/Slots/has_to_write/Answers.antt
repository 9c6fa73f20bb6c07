use Rattle.std.proofs.Common.{sym}
use Rattle.vs_device_parts.proofs.Noting.{writes_as_noted}
use Rattle.vs_device_parts.proofs.slots.Slots.has_to_write.Goals as goal

pub returns-in-Some : goal.returns-in-Some
returns-in-Some c =
    let s = c.self.inside in
    rw (← c.self.view_is) (writes_as_noted s.table c.args.slot c.args.place c.in-Some.note.now c.self.invariant.table
    (rw (← c.self.invariant.notes) (sym c.in-Some.ensures)) c.if-note-slot.true)
