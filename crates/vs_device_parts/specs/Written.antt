-- A round of writing, as the code has it.
use Rattle.std.specs.Prelude.{ℕ}
use Rattle.vs_device_parts.specs.{State.DeviceState, Streams.Writing}

abbrev pub writing : DeviceState → ℕ → Writing
writing s n = record { state = s; wrote = n }
