-- The rings that a script sets up: three queues at the front of a memory whose bytes are all 0.
use Rattle.std.specs.Prelude.{ℕ, ◌&&◌, nat_le, nat_lt, if◌then◌else◌, Bool, false, Option, Some, None}
use Rattle.vs_guest_mem.specs.Memory.{zeroed}
use Rattle.vs_layout.specs.{Layout.queue_areas_of, Span.span_end, declared.span.Span.Span}
use Rattle.vs_ring_plain.specs.Device.{DeviceState, new_device}

-- Whether n descriptors are a queue's, and the three queues lie in the memory. They do in each script.
abbrev pub are_placed : Span → ℕ → Bool
are_placed memory n =
    nat_lt 0 n && nat_le n 256 && nat_le memory.at 4611686018427387904 && nat_le memory.len 1048576
    && nat_le (queue_areas_of memory.at n).event.end (span_end memory)

abbrev pub rings_of : Span → ℕ → Option DeviceState
rings_of memory n =
    if are_placed memory n then Some (new_device (zeroed memory.at memory.len) n (queue_areas_of memory.at n) false) else None
