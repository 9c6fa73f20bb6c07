-- What lies in the memory of one queue.
use Rattle.std.specs.Prelude.{ℕ, ◌+◌, ◌*◌, List}
use Rattle.byteorder.specs.Endian.{little_number}
use Rattle.vs_guest_mem.specs.Memory.{Memory, bytes_at}
use Rattle.vs_layout.specs.{Entry.{desc_of, used_elem_of}, Layout.{avail_entry, avail_event, avail_flags, avail_idx, desc_entry, used_elem, used_event, used_flags, used_idx}}
use Rattle.vs_layout.specs.declared.{entry.{Desc.Desc, TheConstants.DESC_LEN, UsedElem.UsedElem}, place.Areas.Areas, span.Span.Span}
use Rattle.vs_page.specs.declared.page.TheConstants.{PAGE_LEN}

-- The words by which an end says of what it wants to be told: flags and used_event are the driver's, in the available ring, the other two
-- the device's, in the used ring.
pub data Word : Type 0 where
  AvailFlags : Word
  UsedEvent : Word
  UsedFlags : Word
  AvailEvent : Word

-- Where they lie in a queue of n places.
abbrev pub word_in : Areas → ℕ → Word → Span
word_in a n AvailFlags = avail_flags a
word_in a n UsedEvent = used_event a n
word_in a n UsedFlags = used_flags a
word_in a n AvailEvent = avail_event a n

-- The index of the available ring, its entries by place, the descriptors by number, the index of the used ring, its elements by place,
-- of each descriptor's page its first so many bytes, and the words of a queue of so many places.
pub record Shown : Type 0 where
  pub avail : ℕ
  pub entry : ℕ → ℕ
  pub desc : ℕ → Desc
  pub used : ℕ
  pub elem : ℕ → UsedElem
  pub page : ℕ → ℕ → List ℕ
  pub word : ℕ → Word → ℕ

-- What is read of a queue whose pages lie from an address on.
abbrev pub shown : Areas → ℕ → Memory → Shown
shown areas at m = record {
  avail = little_number 2 (bytes_at m (avail_idx areas).at 2);
  entry = λ place. little_number 2 (bytes_at m (avail_entry areas place).at 2);
  desc = λ id. desc_of (bytes_at m (desc_entry areas id).at DESC_LEN);
  used = little_number 2 (bytes_at m (used_idx areas).at 2);
  elem = λ place. used_elem_of (bytes_at m (used_elem areas place).at 8);
  page = λ id count. bytes_at m (at + PAGE_LEN * id) count;
  word = λ n w. little_number 2 (bytes_at m (word_in areas n w).at 2);
}
