use Rattle.std.{proofs.{Common.{◌≡◌, ◌<◌, length, Some, refl, ap, arith}, lemmas.{List.Elements.All-push, Option.slice_get_read}}, specs.List.slice_get}
use Rattle.vs_flow.specs.declared.flow.Flow.{Flow}
use Rattle.vs_driver_parts.{specs.Room.IsSpare, proofs.Numbers.numbers_gone_removed}
use Rattle.vs_driver_parts.proofs.slots.Slots.release.Goals as goal

pub invariant_of-self : goal.invariant_of-self
invariant_of-self c =
    let s = c.self.inside in
    let kept = c.self.invariant in
    let within : c.args.place < length s.gone.items = rw (← c.self.view_is) at c.requires in
    record {
      numbers = rw c.remove-gone.ensures.items (numbers_gone_removed s.first_id s.next_port s.next_id s.table s.gone.items kept.numbers c.args.place within);
      clean = kept.clean;
      last_port = kept.last_port;
      last_id = kept.last_id;
      table = kept.table;
      table_room = kept.table_room;
      gone_room = omega (arith, kept.gone_room, c.remove-gone.ensures.capacity);
      buffers = omega (arith, kept.buffers, c.remove-gone.ensures.len, c.push_reserved.ensures.len);
      buffer_room = omega (arith, kept.buffer_room, c.push_reserved.ensures.capacity);
      spare = rw c.push_reserved.ensures.items (All-push IsSpare s.spare.items c.into_spare.result kept.spare c.into_spare.ensures);
      noted = kept.noted;
    }

pub returns-clause-flow : goal.returns-clause-flow
returns-clause-flow c =
    let gone = c.self.inside.gone.items in
    let within : c.args.place < length gone = rw (← c.self.view_is) at c.requires in
    let at : slice_get gone c.args.place ≡ Some c.remove-gone.result = slice_get_read gone (length gone) c.args.place c.remove-gone.result refl within c.remove-gone.ensures.value in
    rw (← c.self.view_is, at) (ap (λ (f : Flow). Some f) c.flow-flow.ensures)
