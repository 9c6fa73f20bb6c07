-- What both ends of standard rings expose.
use Rattle.std.specs.Prelude.{ℕ, ◌%◌, ◌^◌, ◌==◌, ◌&&◌, Bool, false, length, Option, None, Some, is_some, if◌then◌else◌}
use Rattle.vs_guest_mem.specs.Memory.{Memory}
use Rattle.vs_layout.specs.Layout.{queue_areas_of}
use Rattle.vs_ring_port.specs.Contents.{RingContents}
use Rattle.vs_ring_list.specs.Ends.{Ends, empty_ends}
use Rattle.vs_ring_plain.specs.Device.{DeviceState, plain_state}
use Rattle.laws_plain_rings.specs.Parts.{PartsState, pages_start}
use Rattle.vs_ring_list.specs.Ends as list

-- Both ends in their memory; and what is in flight between them with what each of them did, where they alone change the memory.
pub record BothEnds : Type 0 where
  pub parts : PartsState
  pub ends : Option Ends

-- Where the ends are known the driver's end exposes the lists of pages in flight and both logs, and is honest: as list rings. Otherwise it
-- exposes nothing.
abbrev pub driver_told : Option Ends → RingContents
driver_told None = record { lists = None; log = None; other = None; plain = None; known = None; honest = false }
driver_told (Some w) = list.driver_contents w

-- The device's end exposes its plain state besides, over any memory.
abbrev pub device_told : DeviceState → Option Ends → RingContents
device_told d None = record { lists = None; log = None; other = None; plain = Some (plain_state d); known = None; honest = false }
device_told d (Some w) = record (list.device_contents w) { plain = Some (plain_state d) }

abbrev pub driver_contents : BothEnds → RingContents
driver_contents r = driver_told r.ends

abbrev pub device_contents : BothEnds → RingContents
device_contents r = device_told r.parts.device r.ends

-- The two ends of queues of n places alone change a memory: no change from outside is to come, all pages lie in it behind the areas, and
-- an index modulo 2^16 tells the place in a ring.
abbrev pub are_alone : Memory → ℕ → ℕ → Bool
are_alone m base n = (length m.changes == 0) && is_some (pages_start m (queue_areas_of base n).event.end n) && (2 ^ 16 % n == 0)

abbrev pub first_ends : Memory → ℕ → ℕ → Option Ends
first_ends m base n = if are_alone m base n then Some (empty_ends n) else None
