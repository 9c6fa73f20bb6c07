use Rattle.std.proofs.Common.{ap, arith, length, sym, ◌∙◌}
use Rattle.vs_driver_parts.{specs.ListenerFields.listeners_of, proofs.ListenerChanges.{unlistened, no_more}}
use Rattle.vs_driver_parts.proofs.listeners.Listeners.unlisten.Goals as goal

pub invariant_of-self : goal.invariant_of-self
invariant_of-self c = rw (c.swap.ensures.x_after, c.swap.ensures.y_after) (record {
  within = omega (arith, ap length c.move_others.ensures.moved, no_more c.args.port c.self.inside.ports.entries, c.self.invariant.within);
  room = omega (arith, c.move_others.ensures.room_there, c.self.invariant.room_there);
  empty = c.move_others.ensures.emptied;
  room_there = omega (arith, c.move_others.ensures.room, c.self.invariant.room);
})

pub returns : goal.returns
returns c = rw (← c.self.view_is, c.swap.ensures.x_after)
    (ap listeners_of c.move_others.ensures.moved ∙ sym (unlistened c.args.port c.self.inside.ports.entries))
