use Rattle.std.{proofs.Common.{◌≡◌, length, vec_capacity}, specs.List.All}
use Rattle.vs_limits.specs.declared.TheConstants.{DEVICE_CONNECTIONS}
use Rattle.vs_device_parts.specs.Room.{IsSpare}
use Rattle.vs_device_parts.proofs.slots.all_buffers.Given as goal

abbrev pub invariant-loop : goal.invariant-loop
invariant-loop l = record {
  many : length l.all.items ≡ l.counter;
  room : vec_capacity l.all ≡ DEVICE_CONNECTIONS;
  spare : All IsSpare l.all.items;
}
