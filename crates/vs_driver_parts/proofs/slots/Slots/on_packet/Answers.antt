use Rattle.std.proofs.Common.{rules}
use Rattle.vs_driver_parts.proofs.{SameIds.packet_id, SlotChanges.kept_with_connection}
use Rattle.vs_driver_parts.proofs.slots.Slots.on_packet.Goals as goal

pub invariant_of-self-2 : goal.invariant_of-self-2
invariant_of-self-2 c = kept_with_connection _ _ _ _ c.self.invariant (search (rules, packet_id)) c.noted-self-inside.ensures
