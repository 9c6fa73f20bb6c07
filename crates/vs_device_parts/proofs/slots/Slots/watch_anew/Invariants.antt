use Rattle.std.{proofs.Common.{◌-◌, ◌≤◌, length}, specs.List.AllWithin}
use Rattle.vs_device_parts.specs.Watched.{IsWatched}
use Rattle.vs_device_parts.proofs.slots.Slots.watch_anew.Given as goal

-- what is known of those so far
abbrev pub invariant-loop-entry : goal.invariant-loop-entry
invariant-loop-entry l = record {
  watched : AllWithin (λ e. IsWatched l.watch e.value) l.self-inside.table.entries 0 l.place;
  within : l.place ≤ length l.self-inside.table.entries;
}

abbrev pub decreases-loop-entry : goal.decreases-loop-entry
decreases-loop-entry l = length l.self-inside.table.entries - l.place
