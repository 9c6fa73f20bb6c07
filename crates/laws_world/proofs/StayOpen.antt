-- Streams that are open stay open.
use Rattle.std.proofs.{Common.{◌≡◌, ℕ, ◌-◌, List, refl}, lemmas.Grind.common_steps}
use Rattle.std.{proofs.Common.arith}
use Rattle.vs_flow.specs.Table.{Table}
use Rattle.vs_outside.specs.{Host.{HostContents, Stream, IsOpen, with_stream}, HostProgram.{after_client, after_host_write}}
use Rattle.vs_outside.specs.{HostProgram.{with_bytes}, declared.mem_stream.HostWritten.HostWritten}
use Rattle.vs_outside.proofs.Frames.{keeps_others, open_of, open_stream, slice_get-append, stays_open, stream_at-with_stream, stream_place}
use Rattle.vs_device_parts.specs.State.{DeviceConnection}
use Rattle.laws_device.specs.Named.Streams.{HasStreams}
use Rattle.vs_outside.specs.declared.mem_stream.HostWritten.TheVariants as written

-- From one host to another.
abbrev pub StayOpen : HostContents → HostContents → Type 0
StayOpen h g = (id : ℕ) → IsOpen id h → IsOpen id g

pub still_has : (others : List ℕ) (t : Table DeviceConnection) (h g : HostContents) → StayOpen h g → HasStreams others t h → HasStreams others t g
still_has others t h g opens has = grind (arith, common_steps)

-- A stream's program changes, and no state.
pub stream_stays : (id : ℕ) (f : Stream → Stream) (h : HostContents) → ((s : Stream) → (f s).state ≡ s.state) → StayOpen h (with_stream id f h)
stream_stays id f h same other still = grind (arith, common_steps, open_stream, open_of, stream_at-with_stream, stays_open, keeps_others)

pub client_stays : (h : HostContents) → StayOpen h (after_client h)
client_stays h id still = grind (arith, common_steps, open_stream, stream_place, slice_get-append, open_of)

pub host_write_stays : (id : ℕ) (bytes : List ℕ) (answer : HostWritten) (h : HostContents) → StayOpen h (after_host_write id bytes answer h)
host_write_stays id bytes written.Ok h = stream_stays id (with_bytes bytes) h (λ s. refl)
host_write_stays id bytes x h = λ other still. still
