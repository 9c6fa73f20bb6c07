use Rattle.std.{proofs.Common.{◌≡◌, Some, sym}, specs.List.slice_get}
use Rattle.vs_device_parts.proofs.SlotChanges.{entry_within, past_all, watched_all, watched_more}
use Rattle.vs_device_parts.proofs.slots.Slots.watch_anew.Goals as goal

pub loop-entry-preserved : goal.loop-entry-preserved
loop-entry-preserved c =
    let t = c.self.inside.table in
    let is : slice_get t.entries c.loop-entry.place ≡ Some c.in-Some.entry.now = sym c.in-Some.ensures.entry in
    record {
      watched = watched_more c.loop-entry.watch c.note.new.self c.note.ensures.others t.entries c.loop-entry.place c.in-Some.entry.now c.note.ensures.watched is
          c.loop-entry.invariant.watched;
      within = entry_within t.entries c.loop-entry.place c.in-Some.entry.now is;
    }

pub invariant_of-self : goal.invariant_of-self
invariant_of-self c =
    let s = c.self.inside in
    let kept = c.self.invariant in
    record {
      table = kept.table;
      room = kept.room;
      buffers = kept.buffers;
      buffer_room = kept.buffer_room;
      spare = kept.spare;
      order = kept.order;
      notes = kept.notes;
      watched = watched_all c.loop-entry.watch s.table.entries c.loop-entry.place (past_all s.table.entries c.loop-entry.place (sym c.in_default.ensures.entry))
          c.loop-entry.invariant.watched;
    }
