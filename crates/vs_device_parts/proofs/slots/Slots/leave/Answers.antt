use Rattle.std.proofs.{Common.{◌≡◌, length, Some, None, sym, ap, subst, ◌∙◌, arith, rules}, lemmas.List.Elements.All-push}
use Rattle.vs_flow.specs.Table.{Table, value_under, without}
use Rattle.vs_device_parts.{specs.{State.DeviceConnection, Room.IsSpare, SlotFields.AreKept}, proofs.SlotChanges.{none_leaves, one_fewer, watched_without}}
use Rattle.vs_device_parts.proofs.slots.Slots.leave.Goals as goal

pub invariant_of-self : goal.invariant_of-self
invariant_of-self c =
    let s = c.self.inside in
    let none : value_under s.table c.args.slot ≡ None = search rules in
    let same : c.remove.new.self ≡ s.table = c.remove.ensures.removed ∙ none_leaves s.table c.args.slot none in
    let P : Table DeviceConnection → Type 0 = λ t. AreKept (record s { table = t }) in
    subst P (sym same) c.self.invariant

pub invariant_of-self-2 : goal.invariant_of-self-2
invariant_of-self-2 c =
    let s = c.self.inside in
    let kept = c.self.invariant in
    let there : value_under s.table c.args.slot ≡ Some c.in-Some.connection = sym c.in-Some.ensures.value in
    let table : c.remove.new.self ≡ without s.table c.args.slot = c.in-Some.ensures.removed in
    let entries = ap (λ (t : Table DeviceConnection). length t.entries) table in
    record {
      table = c.in-Some.ensures.sound;
      room = ap (λ (t : Table DeviceConnection). t.room) table ∙ kept.room;
      buffers = omega (arith, kept.buffers, entries, one_fewer s.table c.args.slot c.in-Some.connection kept.table there, c.push_reserved.ensures.len);
      buffer_room = omega (arith, kept.buffer_room, c.push_reserved.ensures.capacity);
      spare = rw c.push_reserved.ensures.items (All-push IsSpare s.spare.items c.into_buffers.result kept.spare c.into_buffers.ensures);
      order = c.slots_of-self-inside.ensures;
      notes = c.of-self-inside.ensures;
      watched = rw table (watched_without s.watch s.table c.args.slot kept.watched);
    }
