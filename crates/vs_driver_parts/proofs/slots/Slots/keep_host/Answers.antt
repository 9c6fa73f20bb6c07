use Rattle.std.proofs.Common.{List, sym, subst}
use Rattle.vs_flow.specs.declared.flow.Flow.{Flow}
use Rattle.vs_driver_parts.{specs.SlotFields.AreClean, proofs.Clean.clean_host}
use Rattle.vs_driver_parts.proofs.slots.Slots.keep_host.Goals as goal

pub invariant_of-self : goal.invariant_of-self
invariant_of-self c =
    let s = c.self.inside in
    let kept = c.self.invariant in
    record {
      numbers = kept.numbers;
      clean = subst (λ (fs : List Flow). AreClean s.next_port s.table fs) (sym c.keep_host.ensures) (clean_host s.next_port s.table s.clean kept.clean);
      last_port = kept.last_port;
      last_id = kept.last_id;
      table = kept.table;
      table_room = kept.table_room;
      gone_room = kept.gone_room;
      buffers = kept.buffers;
      buffer_room = kept.buffer_room;
      spare = kept.spare;
      noted = kept.noted;
    }
