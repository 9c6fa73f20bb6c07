use Rattle.std.proofs.Common.{◌≡◌, ◌+◌, ◌≤◌, ◌++◌}
use Rattle.indexmap.specs.{Drain.{drain_rest, DrainKeeps}, IndexMap.{index_map_len, spare}}
use Rattle.vs_driver_parts.specs.ListenerFields.{others}
use Rattle.vs_driver_parts.proofs.listeners.move_others.Given as goal

abbrev pub invariant-loop-listened : goal.invariant-loop-listened
invariant-loop-listened l = (goal.iterator-loop-listened).can_next l.listened-iterator
    × (goal.iterator-loop-listened).is_finite l.listened-iterator
    × DrainKeeps l.initial.listened-iterator l.listened-iterator
    × (l.to.entries ++ others l.port (drain_rest l.listened-iterator) ≡ others l.port l.fn.from.entries)
    × (spare l.fn.to ≤ index_map_len l.to + spare l.to)
