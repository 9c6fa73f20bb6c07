use Rattle.std.proofs.Common.{◌≡◌, ◌+◌, ◌<◌, ◌≤◌, length, ◌∷◌, [], ap, ◌∙◌, rules, arith, length-append, Some}
use Rattle.vs_flow.{specs.Table.{Table, with_entry, next_entry}, proofs.Tables.with_entry_sound}
use Rattle.vs_driver_parts.{specs.{Room.IsSpare, State.DriverConnection, Connections.free_flow}, proofs.{Noting.noted_with_entry, Numbers.numbers_with_entry, SlotChanges.all_front}}
use Rattle.vs_driver_parts.proofs.Clean.{all_clean, given_absent, given_clean, given_guest, given_within, port_below, port_rises}
use Rattle.vs_limits.specs.declared.TheConstants.{LAST_ID}
use Rattle.laws_tables.{specs.Ends.{without as flows_without}, proofs.Found.removed_flow}
use Rattle.vs_driver_parts.proofs.slots.Slots.open_asked.Goals as goal

pub insert-requires-clause-unknown : goal.insert-requires-clause-unknown
insert-requires-clause-unknown c =
    let s = c.self.inside in
    let kept = c.self.invariant in
    given_absent s.next_port s.table s.clean kept.clean c.args.flow kept.numbers.ports c.requires.host
    (rw (← c.self.view_is) at c.requires.next)

pub port_after-next-requires : goal.port_after-next-requires
port_after-next-requires c =
    let s = c.self.inside in
    let kept = c.self.invariant in
    record { left = given_guest s.next_port s.table s.clean kept.clean c.args.flow (rw (← c.self.view_is) at c.requires.next) kept.last_port }

pub invariant_of-self : goal.invariant_of-self
invariant_of-self c =
    let s = c.self.inside in
    let kept = c.self.invariant in
    let f = c.args.flow in
    let free : length s.table.entries + length s.gone.items < 64 = rw (← c.self.view_is) at c.requires.free in
    let next : free_flow f.peer f.host s.next_port s.clean ≡ Some f = rw (← c.self.view_is) at c.requires.next in
    let table : c.insert.new.table ≡ with_entry s.table f c.asked-connection.result = c.insert.ensures in
    let id : c.asked-connection.result.id ≡ s.next_id = search rules in
    let entries = ap (λ (t : Table DriverConnection). length t.entries) table in
    let last : s.next_id ≤ LAST_ID = rw (← c.self.view_is) at c.requires.id in
    record {
      numbers = rw (table, c.port_after-next.ensures) (numbers_with_entry s.first_id s.next_port s.next_id s.table s.gone.items kept.numbers f c.asked-connection.result _ id
          (port_rises s.next_port f.guest) (λ mine. port_below s.next_port f.guest));
      clean = rw (table, c.port_after-next.ensures, c.remove.ensures, removed_flow f s.clean (all_clean s.next_port s.table s.clean kept.clean).once)
          (given_clean s.next_port s.table s.clean kept.clean f c.asked-connection.result);
      last_port = rw c.port_after-next.ensures (given_within s.next_port s.table s.clean kept.clean f next kept.last_port);
      last_id = omega (arith, last);
      table = rw table (with_entry_sound s.table f c.asked-connection.result kept.table (record {
        absent = given_absent s.next_port s.table s.clean kept.clean f kept.numbers.ports c.requires.host next;
        place = omega (arith, kept.table_room, free);
        slot = omega (arith, kept.numbers.given, kept.last_id);
      }));
      table_room = ap (λ (t : Table DriverConnection). t.room) table ∙ kept.table_room;
      gone_room = kept.gone_room;
      buffers = omega (arith, kept.buffers, entries, length-append s.table.entries (next_entry s.table f c.asked-connection.result ∷ []), c.take_last.ensures.len);
      buffer_room = omega (arith, kept.buffer_room, c.take_last.ensures.capacity);
      spare = all_front IsSpare c.take_last.new.self.items c.take_last.result s.spare.items c.take_last.ensures.items kept.spare;
      noted = rw table (noted_with_entry s.owes c.noted_new-self-inside.result c.asked-connection.result s.table f (c.noted_new-self-inside.ensures s.table.given) kept.noted);
    }

pub returns-clause-opened : goal.returns-clause-opened
returns-clause-opened c =
    let s = c.self.inside in
    let clean : c.remove.new.self ≡ flows_without c.args.flow s.clean =
    c.remove.ensures ∙ removed_flow c.args.flow s.clean (all_clean s.next_port s.table s.clean c.self.invariant.clean).once in
    search rules
