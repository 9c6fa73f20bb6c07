use Rattle.std.proofs.Common.{sym}
use Rattle.vs_device_parts.proofs.Noting.{served_as_noted}
use Rattle.vs_device_parts.proofs.slots.Slots.service.Goals as goal

pub returns-in-Some-clause-served : goal.returns-in-Some-clause-served
returns-in-Some-clause-served c =
    let s = c.self.inside in
    rw (← c.self.view_is) (served_as_noted s.table c.args.slot c.args.place c.in-Some.note.now c.self.invariant.table
    (rw (← c.self.invariant.notes) (sym c.in-Some.ensures)) c.if-note-slot.true)
