-- One page on its way to the device and back.
use Rattle.std.specs.Prelude.{◌≡◌, ℕ, ◌+◌, ◌*◌, ◌^◌, ◌<◌, ◌≤◌, Bool, List, ◌∷◌, length, slice_index_or, Option, None, Some}
use Rattle.vs_guest_mem.specs.Memory.{Memory}
use Rattle.vs_header.specs.declared.TheConstants.{HEADER_LEN}
use Rattle.vs_layout.specs.{Layout.{AreInside, IsPlaced, avail_area, desc_area, used_area}, Span.IsApart, declared.place.Areas.Areas}
use Rattle.vs_page.specs.declared.page.TheConstants.{PAGE_LEN}
use Rattle.vs_ring_port.specs.{declared.queue.Queue.Queue, declared.queue.TheConstants.QUEUE_SIZE_MAX, declared.queue.Queue.TheVariants.Tx}
use Rattle.vs_ring_plain.specs.{Accesses.over, Chain.Ring, Pieces.returning}
use Rattle.vs_plain_driver.specs.Queue.{DriverQueueState, flight_in, published_memory, staged_memory, staged_queue}

-- The driver's end of a queue of n descriptors whose pages lie from an address on, of which none is staged and the descriptor id is the
-- next free one.
abbrev pub idle_queue : ℕ → ℕ → List (Option (List ℕ)) → ℕ → List ℕ → ℕ → ℕ → DriverQueueState
idle_queue n at pages id rest published reaped = record {
  n = n;
  pages_at = Some at;
  pages = pages;
  free = id ∷ rest;
  published = published;
  staged = 0;
  reaped = reaped;
}

-- The memory after a page was staged and published.
abbrev pub posted : Queue → List ℕ → Areas → DriverQueueState → Memory → Memory
posted queue page areas q m = published_memory areas (staged_queue page q) (staged_memory queue page areas q m)

-- The queue as the device sees it.
abbrev pub ring_of : Queue → ℕ → Areas → Memory → Bool → Ring
ring_of queue n areas m indirect =
    record { queue = queue; n = n; areas = areas; base = m.base; size = length m.bytes; indirect = indirect }

-- The queue lies in the memory, its areas and its pages apart from one another, and a page may be posted at the descriptor id.
pub record CanPost (queue : Queue) (n at id published : ℕ) (areas : Areas) (page : List ℕ) (m : Memory) : Type 0 where
  pub limit : n ≤ QUEUE_SIZE_MAX
  pub within : id < n
  pub index : published < 2 ^ 16
  pub placed : IsPlaced areas n
  pub inside : AreInside areas n record { at = m.base; len = length m.bytes }
  pub fits : m.base + length m.bytes < 2 ^ 64
  pub from : m.base ≤ at
  pub to : at + PAGE_LEN * n ≤ m.base + length m.bytes
  pub beside_desc : IsApart record { at = at; len = PAGE_LEN * n } (desc_area areas n)
  pub beside_avail : IsApart record { at = at; len = PAGE_LEN * n } (avail_area areas n)
  pub size : length page ≤ PAGE_LEN
  pub header : queue ≡ Tx → HEADER_LEN ≤ length page

-- The memory after the device returned the chain of a first descriptor, with so many bytes, where it returned `used` chains before.
abbrev pub returned : Ring → ℕ → ℕ → ℕ → Memory → Memory
returned r used head len m = (over (returning r used head len) m).1

-- The queue lies in the memory, its areas and its pages apart from one another; the driver reaped every page that was returned before, and
-- has published one at the descriptor head.
pub record CanReap (q : DriverQueueState) (at head len : ℕ) (areas : Areas) (page : List ℕ) (m : Memory) : Type 0 where
  pub limit : q.n ≤ QUEUE_SIZE_MAX
  pub within : head < q.n
  pub index : q.reaped < 2 ^ 16
  pub length_fits : len < 2 ^ 32
  pub inside : AreInside areas q.n record { at = m.base; len = length m.bytes }
  pub pages : q.pages_at ≡ Some at
  pub from : m.base ≤ at
  pub to : at + PAGE_LEN * q.n ≤ m.base + length m.bytes
  pub beside_used : IsApart record { at = at; len = PAGE_LEN * q.n } (used_area areas q.n)
  pub in_flight : slice_index_or q.pages head None ≡ Some page
  pub published : q.staged < flight_in q
