use Rattle.vs_device_parts.proofs.SlotChanges.{slots_rise}
use Rattle.vs_device_parts.proofs.slots.Slots.all.Goals as goal

pub returns-clause-rising : goal.returns-clause-rising
returns-clause-rising c = rw (← c.self.view_is) (slots_rise c.self.inside.table c.self.invariant.table)
