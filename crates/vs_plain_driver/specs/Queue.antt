-- The driver's end of a queue as a plain value, and what each of its calls makes of it and of the memory (Virtio 1.2, section 2.7). A
-- page lies in the memory at the place of its descriptor, which names it.
use Rattle.std.specs.Prelude.{ℕ, ◌+◌, ◌-◌, ◌*◌, ◌%◌, ◌^◌, ◌==◌, ◌||◌, nat_le, nat_lt, List, [], ◌∷◌, ◌++◌, length, drop, take, min, set, slice_index_or, Option, None, Some}
use Rattle.std.specs.Prelude.{if◌then◌else◌}
use Rattle.byteorder.specs.Endian.{little_bytes, little_number}
use Rattle.vs_guest_mem.specs.Memory.{Memory, after_write, bytes_at}
use Rattle.vs_layout.specs.{declared.{entry.{Desc.Desc, TheConstants.WRITE, UsedElem.UsedElem}, place.Areas.Areas}, Entry.{desc_bytes, used_elem_of}, Layout.avail_entry}
use Rattle.vs_layout.specs.Layout.{avail_flags, avail_idx, desc_entry, used_elem, used_event, used_idx}
use Rattle.vs_page.specs.declared.page.TheConstants.{PAGE_LEN}
use Rattle.vs_ring_plain.specs.Chain.{ahead}
use Rattle.vs_ring_port.specs.declared.queue.Queue.{Queue, TheVariants.Tx}

-- A queue of n descriptors. Its pages lie one after another from an address on, where they lie in the memory at all. For each descriptor
-- its page, as it was staged, while it has one; the descriptors that have none, oldest first; the index of the available ring as it was
-- stored last; the pages staged and not published; the elements of the used ring that were reaped, modulo 2^16.
pub record DriverQueueState : Type 0 where
  pub n : ℕ
  pub pages_at : Option ℕ
  pub pages : List (Option (List ℕ))
  pub free : List ℕ
  pub published : ℕ
  pub staged : ℕ
  pub reaped : ℕ

-- Pages staged and not reaped.
abbrev pub flight_in : DriverQueueState → ℕ
flight_in q = q.n - length q.free

-- Where the page of a descriptor lies.
abbrev pub page_at : Option ℕ → ℕ → ℕ
page_at None id = PAGE_LEN * id
page_at (Some at) id = at + PAGE_LEN * id

-- The descriptor of a page. A page of tx is to be read, all of it; one of rx or event is to be written into.
abbrev pub desc_for : Queue → ℕ → ℕ → Desc
desc_for Tx at len = record { addr = at; len = len; flags = 0; next = 0 }
desc_for _ at len = record { addr = at; len = PAGE_LEN; flags = WRITE; next = 0 }

-- The memory with a page's bytes at its place, and what is read back from there. Pages that don't lie in the memory stay as they are.
abbrev pub with_page : Option ℕ → ℕ → List ℕ → Memory → Memory
with_page None id page m = m
with_page (Some at) id page m = after_write m (at + PAGE_LEN * id) page

abbrev pub page_back : Option ℕ → ℕ → ℕ → List ℕ → Memory → List ℕ
page_back None id len page m = take len page
page_back (Some at) id len page m = bytes_at m (at + PAGE_LEN * id) len

-- The memory in which the driver gave no page of a queue of n places and wants to be told of each that is returned: flags, index and
-- used_event of the available ring are 0.
abbrev pub cleared_avail : Areas → ℕ → Memory → Memory
cleared_avail a n m =
    let flags = after_write m (avail_flags a).at (0 ∷ 0 ∷ []) in
    let index = after_write flags (avail_idx a).at (0 ∷ 0 ∷ []) in
    after_write index (used_event a n).at (0 ∷ 0 ∷ [])

-- The descriptor that the next page gets.
abbrev pub next_free : DriverQueueState → ℕ
next_free q = slice_index_or q.free 0 0

-- A page is staged: its bytes, its descriptor, and its entry in the available ring behind those of the pages staged before.
abbrev pub staged_queue : List ℕ → DriverQueueState → DriverQueueState
staged_queue page q =
    record q { pages = set q.pages (next_free q) (Some page); free = drop 1 q.free; staged = q.staged + 1 }

abbrev pub staged_memory : Queue → List ℕ → Areas → DriverQueueState → Memory → Memory
staged_memory queue page areas q m =
    let id = next_free q in
    let described =
    after_write (with_page q.pages_at id page m) (desc_entry areas id).at (desc_bytes (desc_for queue (page_at q.pages_at id) (length page))) in
    after_write described (avail_entry areas ((q.published + q.staged) % q.n)).at (little_bytes 2 id)

-- Those staged are published: the index of the available ring is stored, once.
abbrev pub published_queue : DriverQueueState → DriverQueueState
published_queue q = record q { published = (q.published + q.staged) % 2 ^ 16; staged = 0 }

abbrev pub published_memory : Areas → DriverQueueState → Memory → Memory
published_memory areas q m =
    if q.staged == 0 then m else after_write m (avail_idx areas).at (little_bytes 2 ((q.published + q.staged) % 2 ^ 16))

-- The page of a descriptor, with its number, where it has one.
abbrev pub numbered : ℕ → Option (List ℕ) → Option (ℕ × List ℕ)
numbered id None = None
numbered id (Some page) = Some (id, page)

-- The descriptor that the next element of the used ring names, and the page that it has: none where the used ring has no further element,
-- where its index lies further ahead than published pages are in flight, or where the element names no descriptor of a page in flight.
abbrev pub next_elem : Areas → DriverQueueState → Memory → UsedElem
next_elem areas q m = used_elem_of (bytes_at m (used_elem areas (q.reaped % q.n)).at 8)

abbrev pub used_ahead : Areas → DriverQueueState → Memory → ℕ
used_ahead areas q m = ahead (little_number 2 (bytes_at m (used_idx areas).at 2)) q.reaped

abbrev pub next_used : Areas → DriverQueueState → Memory → Option (ℕ × List ℕ)
next_used areas q m =
    let more = used_ahead areas q m in
    let e = next_elem areas q m in
    if (more == 0) || nat_lt (flight_in q - q.staged) more || nat_le q.n e.id then None
    else numbered e.id (slice_index_or q.pages e.id None)

-- That page comes back with the bytes that lie in the memory, as many as the element tells, and its descriptor has none from then on.
abbrev pub reaped_page : Areas → DriverQueueState → Memory → Option (ℕ × List ℕ) → Option (List ℕ)
reaped_page areas q m None = None
reaped_page areas q m (Some (id, page)) = Some (page_back q.pages_at id (min (next_elem areas q m).len PAGE_LEN) page m)

abbrev pub reaped_queue : DriverQueueState → Option (ℕ × List ℕ) → DriverQueueState
reaped_queue q None = q
reaped_queue q (Some (id, page)) =
    record q { pages = set q.pages id None; free = q.free ++ id ∷ []; reaped = (q.reaped + 1) % 2 ^ 16 }
