use Rattle.std.proofs.Common.{◌≡◌, ◌+◌, ◌<◌, ◌≤◌, length, ◌∷◌, [], ap, ◌∙◌, rules, arith, length-append}
use Rattle.vs_flow.{specs.Table.{Table, with_entry, next_entry}, proofs.Tables.with_entry_sound}
use Rattle.vs_driver_parts.{specs.{Room.IsSpare, State.DriverConnection}, proofs.{Noting.noted_with_entry, Numbers.numbers_with_entry, SlotChanges.all_front, Clean.clean_entry}}
use Rattle.vs_driver_parts.proofs.Clean.{none_assigned}
use Rattle.vs_limits.specs.declared.TheConstants.{LAST_ID}
use Rattle.vs_driver_parts.proofs.slots.Slots.open_answering.Goals as goal

pub invariant_of-self : goal.invariant_of-self
invariant_of-self c =
    let s = c.self.inside in
    let kept = c.self.invariant in
    let free : length s.table.entries + length s.gone.items < 64 = rw (← c.self.view_is) at c.requires.free in
    let table : c.insert.new.table ≡ with_entry s.table c.args.flow c.answering-connection.result = c.insert.ensures in
    let id : c.answering-connection.result.id ≡ s.next_id = search rules in
    let entries = ap (λ (t : Table DriverConnection). length t.entries) table in
    let last : s.next_id ≤ LAST_ID = rw (← c.self.view_is) at c.requires.id in
    record {
      numbers = rw table (numbers_with_entry s.first_id s.next_port s.next_id s.table s.gone.items kept.numbers c.args.flow c.answering-connection.result _ id (omega arith) (λ mine. absurd (cc (mine, c.requires.host))));
      clean = rw table (clean_entry s.next_port s.next_port s.table c.args.flow c.answering-connection.result s.clean kept.clean
          (none_assigned s.next_port s.table c.args.flow s.clean kept.clean c.requires.host) (omega arith));
      last_port = kept.last_port;
      last_id = omega (arith, last);
      table = rw table (with_entry_sound s.table c.args.flow c.answering-connection.result kept.table
          (record { absent = rw (← c.self.view_is) at c.requires.unknown; place = omega (arith, kept.table_room, free); slot = omega (arith, kept.numbers.given, kept.last_id) }));
      table_room = ap (λ (t : Table DriverConnection). t.room) table ∙ kept.table_room;
      gone_room = kept.gone_room;
      buffers = omega (arith, kept.buffers, entries, length-append s.table.entries (next_entry s.table c.args.flow c.answering-connection.result ∷ []), c.take_last.ensures.len);
      buffer_room = omega (arith, kept.buffer_room, c.take_last.ensures.capacity);
      spare = all_front IsSpare c.take_last.new.self.items c.take_last.result s.spare.items c.take_last.ensures.items kept.spare;
      noted = rw table (noted_with_entry s.owes c.noted_new-self-inside.result c.answering-connection.result s.table c.args.flow (c.noted_new-self-inside.ensures s.table.given) kept.noted);
    }
