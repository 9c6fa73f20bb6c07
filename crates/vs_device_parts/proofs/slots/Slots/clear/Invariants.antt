use Rattle.std.proofs.Common.{◌≡◌, length}
use Rattle.vs_flow.specs.Table.{emptied}
use Rattle.vs_device_parts.proofs.slots.Slots.clear.Given as goal

-- those that are left leave as all do
abbrev pub invariant-loop-slot : goal.invariant-loop-slot
invariant-loop-slot l = record { same : emptied l.self ≡ emptied l.fn.self }

abbrev pub decreases-loop-slot : goal.decreases-loop-slot
decreases-loop-slot l = length l.self.entries
