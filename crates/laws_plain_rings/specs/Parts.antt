-- Both ends of standard rings as a plain value, and what each call makes of it.
use Rattle.std.specs.{Prelude.{ℕ, ◌+◌, ◌-◌, ◌*◌, ◌%◌, Bool, nat_le, List, length, replicate, Option, None, Some, if◌then◌else◌}, List.range_with_len}
use Rattle.vs_guest_mem.specs.Memory.{Memory}
use Rattle.vs_layout.specs.{Layout.queue_areas_of, declared.placement.QueueAreas.QueueAreas}
use Rattle.vs_limits.specs.declared.TheConstants.{FIRST_CID}
use Rattle.vs_page.specs.declared.page.TheConstants.{PAGE_LEN}
use Rattle.vs_ring_port.specs.{Counts.Counts, declared.queue.Queue.{Queue, TheVariants.{Rx, Tx, Event}}}
use Rattle.vs_ring_plain.specs.Device.{DeviceState, areas_at, cleared_used, new_device, with_memory}
use Rattle.vs_plain_driver.specs.Queue.{DriverQueueState, cleared_avail, flight_in, next_used, published_memory, published_queue, reaped_queue, staged_memory, staged_queue}

-- The device's end with the memory, the driver's end of each queue, and the guest's CID.
pub record PartsState : Type 0 where
  pub device : DeviceState
  pub rx : DriverQueueState
  pub tx : DriverQueueState
  pub event : DriverQueueState
  pub cid : ℕ

-- The driver's end of a queue, and both ends with another there.
abbrev pub driver_at : Queue → PartsState → DriverQueueState
driver_at Rx p = p.rx
driver_at Tx p = p.tx
driver_at Event p = p.event

abbrev pub with_driver : Queue → DriverQueueState → PartsState → PartsState
with_driver Rx q p = record p { rx = q }
with_driver Tx q p = record p { tx = q }
with_driver Event q p = record p { event = q }

abbrev pub with_parts_memory : Memory → PartsState → PartsState
with_parts_memory m p = record p { device = with_memory p.device m }

abbrev pub parts_flight : PartsState → Counts
parts_flight p = record { rx = flight_in p.rx; tx = flight_in p.tx; event = flight_in p.event }

abbrev pub parts_staged : PartsState → Counts
parts_staged p = record { rx = p.rx.staged; tx = p.tx.staged; event = p.event.staged }

-- The driver's calls.
abbrev pub staged_parts : Queue → List ℕ → PartsState → PartsState
staged_parts queue page p =
    let q = driver_at queue p in
    with_driver queue (staged_queue page q) (with_parts_memory (staged_memory queue page (areas_at queue p.device.areas) q
    p.device.memory) p)

abbrev pub published_parts : Queue → PartsState → PartsState
published_parts queue p =
    let q = driver_at queue p in
    with_driver queue (published_queue q) (with_parts_memory (published_memory (areas_at queue p.device.areas) q p.device.memory) p)

abbrev pub used_in : Queue → PartsState → Option (ℕ × List ℕ)
used_in queue p = next_used (areas_at queue p.device.areas) (driver_at queue p) p.device.memory

abbrev pub reaped_parts : Queue → PartsState → PartsState
reaped_parts queue p = with_driver queue (reaped_queue (driver_at queue p) (used_in queue p)) p

-- Where the pages begin: at the next multiple of 4,096 behind the areas, where 3n pages lie in the memory from there on.
abbrev pub pages_start : Memory → ℕ → ℕ → Option ℕ
pages_start m end n =
    let at = end + (PAGE_LEN - end % PAGE_LEN) % PAGE_LEN in
    if nat_le (at + 3 * (PAGE_LEN * n)) (m.base + length m.bytes) then Some at else None

abbrev pub pages_behind : Option ℕ → ℕ → Option ℕ
pages_behind None more = None
pages_behind (Some at) more = Some (at + more)

-- The memory in which no page was given or returned, and each end wants to be told of every one: of each queue the driver wrote its three
-- words, then the device.
abbrev pub cleared : QueueAreas → ℕ → Memory → Memory
cleared a n m =
    let driver = cleared_avail a.event n (cleared_avail a.tx n (cleared_avail a.rx n m)) in
    cleared_used a.event n (cleared_used a.tx n (cleared_used a.rx n driver))

abbrev pub new_queue : ℕ → Option ℕ → DriverQueueState
new_queue n at =
    record { n = n; pages_at = at; pages = replicate n None; free = range_with_len 0 n; published = 0; staged = 0; reaped = 0 }

-- Rings of which each queue has n places, with the areas from a base on, before the first call.
abbrev pub new_parts : Memory → ℕ → ℕ → Bool → PartsState
new_parts m base n indirect =
    let areas = queue_areas_of base n in
    let pages = pages_start m areas.event.end n in
    record {
      device = new_device (cleared areas n m) n areas indirect;
      rx = new_queue n pages;
      tx = new_queue n (pages_behind pages (PAGE_LEN * n));
      event = new_queue n (pages_behind pages (2 * (PAGE_LEN * n)));
      cid = FIRST_CID;
    }
