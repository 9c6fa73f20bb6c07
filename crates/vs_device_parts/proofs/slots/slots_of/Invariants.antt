use Rattle.std.proofs.Common.{◌≡◌, ◌-◌, ◌≤◌, length, take}
use Rattle.vs_flow.specs.Table.{slots}
use Rattle.vs_device_parts.proofs.slots.slots_of.Given as goal

-- the slots so far
abbrev pub invariant-loop-entry : goal.invariant-loop-entry
invariant-loop-entry l = record {
  items : l.all.items ≡ take l.place (slots l.table);
  within : l.place ≤ length (slots l.table);
}

abbrev pub decreases-loop-entry : goal.decreases-loop-entry
decreases-loop-entry l = length (slots l.table) - l.place
