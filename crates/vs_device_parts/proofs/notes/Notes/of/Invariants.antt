use Rattle.std.proofs.Common.{◌≡◌, ◌-◌, ◌≤◌, length, take}
use Rattle.vs_device_parts.specs.Noted.{notes_of}
use Rattle.vs_device_parts.proofs.notes.Notes.of.Given as goal

-- the notes so far
abbrev pub invariant-loop-entry : goal.invariant-loop-entry
invariant-loop-entry l = record {
  items : l.notes.items ≡ take l.place (notes_of l.table);
  within : l.place ≤ length (notes_of l.table);
}

abbrev pub decreases-loop-entry : goal.decreases-loop-entry
decreases-loop-entry l = length (notes_of l.table) - l.place
