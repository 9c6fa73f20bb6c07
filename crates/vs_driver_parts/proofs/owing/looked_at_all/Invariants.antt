use Rattle.std.{proofs.Common.{◌-◌, ◌≤◌, length, take}, specs.List.All}
use Rattle.vs_driver_parts.specs.Owing.{OwesAsNoted}
use Rattle.vs_driver_parts.proofs.owing.looked_at_all.Given as goal

-- those so far
abbrev pub invariant-loop-entry : goal.invariant-loop-entry
invariant-loop-entry l = record {
  noted : All (OwesAsNoted l.owes) (take l.place l.table.entries);
  within : l.place ≤ length l.table.entries;
}

abbrev pub decreases-loop-entry : goal.decreases-loop-entry
decreases-loop-entry l = length l.table.entries - l.place
