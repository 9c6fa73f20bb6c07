use Rattle.std.proofs.Common.{◌≡◌, take, filter}
use Rattle.vs_guest_mem.specs.Memory.{after_changes, is_due}
use Rattle.vs_guest_mem.proofs.change.make_due.Given as goal

abbrev pub invariant-loop-change : goal.invariant-loop-change
invariant-loop-change l =
    l.memory ≡ after_changes l.base l.initial.memory (filter is_due (take l.change-index l.changes))
