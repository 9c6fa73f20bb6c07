use Rattle.std.{proofs.Common.{◌≡◌, length, vec_capacity}, specs.List.All}
use Rattle.vs_limits.specs.declared.TheConstants.{DRIVER_CONNECTIONS}
use Rattle.vs_driver_parts.specs.Room.{IsSpare}
use Rattle.vs_driver_parts.proofs.slots.buffers.Given as goal

abbrev pub invariant-loop : goal.invariant-loop
invariant-loop l = record {
  many : length l.buffers.items ≡ l.counter;
  room : vec_capacity l.buffers ≡ DRIVER_CONNECTIONS;
  spare : All IsSpare l.buffers.items;
}
