use Rattle.std.proofs.Common.{◌≡◌, ◌∷◌, [], length, ap, ◌∙◌, arith, length-append, true, None}
use Rattle.vs_flow.{specs.Table.{Table, with_entry, next_entry, has_place, entry_of}, proofs.Tables.with_entry_sound}
use Rattle.vs_device_parts.{specs.{State.DeviceConnection, Room.IsSpare}, proofs.SlotChanges.{accepts, all_front, watched_with_entry}}
use Rattle.vs_device_parts.proofs.slots.Slots.open_client.Goals as goal

pub invariant_of-self : goal.invariant_of-self
invariant_of-self c =
    let s = c.self.inside in
    let kept = c.self.invariant in
    let table : c.insert-slot.new.table ≡ with_entry s.table c.args.flow c.client-connection.result = c.insert-slot.ensures.opened in
    let entries = ap (λ (t : Table DeviceConnection). length t.entries) table in
    let free : has_place s.table ≡ true = rw (← c.self.view_is) at c.requires.place in
    let unknown : entry_of s.table c.args.flow ≡ None = rw (← c.self.view_is) at c.requires.unknown in
    record {
      table = rw table (with_entry_sound s.table c.args.flow c.client-connection.result kept.table (accepts s.table c.args.flow free unknown));
      room = ap (λ (t : Table DeviceConnection). t.room) table ∙ kept.room;
      buffers = omega (arith, kept.buffers, entries, length-append s.table.entries (next_entry s.table c.args.flow c.client-connection.result ∷ []), c.take_last.ensures.len);
      buffer_room = omega (arith, kept.buffer_room, c.take_last.ensures.capacity);
      spare = all_front IsSpare c.take_last.new.self.items c.take_last.result s.spare.items c.take_last.ensures.items kept.spare;
      order = c.slots_of-self-inside.ensures;
      notes = c.of-self-inside.ensures;
      watched = rw table (watched_with_entry s.watch c.note.new.self c.note.ensures.others s.table kept.watched c.args.flow c.client-connection.result c.note.ensures.watched);
    }
