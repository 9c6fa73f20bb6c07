-- The split ring's three areas, and what lies in them (Virtio 1.2, sections 2.7.5, 2.7.6 and 2.7.8).
use Rattle.std.specs.{Prelude.{◌≡◌, ℕ, ◌+◌, ◌*◌, ◌%◌}, Int.next_multiple_of}
use Rattle.vs_layout.specs.{Span.{IsApart, LiesIn}, declared.{place.Areas.Areas, placement.QueueAreas.QueueAreas, span.Span.Span}}

-- n descriptors of 16 bytes
abbrev pub desc_area : Areas → ℕ → Span
desc_area a n = record { at = a.desc; len = 16 * n }

-- flags, index, n entries and used_event, of 2 bytes each
abbrev pub avail_area : Areas → ℕ → Span
avail_area a n = record { at = a.avail; len = 6 + 2 * n }

-- flags and index of 2 bytes, n elements of 8, avail_event of 2
abbrev pub used_area : Areas → ℕ → Span
used_area a n = record { at = a.used; len = 6 + 8 * n }

abbrev pub desc_entry : Areas → ℕ → Span
desc_entry a number = record { at = a.desc + 16 * number; len = 16 }

abbrev pub avail_flags : Areas → Span
avail_flags a = record { at = a.avail; len = 2 }

abbrev pub avail_idx : Areas → Span
avail_idx a = record { at = a.avail + 2; len = 2 }

abbrev pub avail_entry : Areas → ℕ → Span
avail_entry a place = record { at = a.avail + 4 + 2 * place; len = 2 }

abbrev pub used_event : Areas → ℕ → Span
used_event a n = record { at = a.avail + 4 + 2 * n; len = 2 }

abbrev pub used_flags : Areas → Span
used_flags a = record { at = a.used; len = 2 }

abbrev pub used_idx : Areas → Span
used_idx a = record { at = a.used + 2; len = 2 }

abbrev pub used_elem : Areas → ℕ → Span
used_elem a place = record { at = a.used + 4 + 8 * place; len = 8 }

abbrev pub avail_event : Areas → ℕ → Span
avail_event a n = record { at = a.used + 4 + 8 * n; len = 2 }

-- The areas of a queue of n entries are aligned as the standard asks, and no two have a byte in common.
pub record IsPlaced (a : Areas) (n : ℕ) : Type 0 where
  pub desc_aligned : a.desc % 16 ≡ 0
  pub avail_aligned : a.avail % 2 ≡ 0
  pub used_aligned : a.used % 4 ≡ 0
  pub desc_avail : IsApart (desc_area a n) (avail_area a n)
  pub avail_used : IsApart (avail_area a n) (used_area a n)
  pub desc_used : IsApart (desc_area a n) (used_area a n)

-- The areas of a queue of n entries lie in a piece of memory.
pub record AreInside (a : Areas) (n : ℕ) (memory : Span) : Type 0 where
  pub desc_inside : LiesIn (desc_area a n) memory
  pub avail_inside : LiesIn (avail_area a n) memory
  pub used_inside : LiesIn (used_area a n) memory

-- The areas of a queue of n entries from an address on: one after another, the used ring at the next multiple of 4.
abbrev pub areas_of : ℕ → ℕ → Areas
areas_of at n =
    let avail = at + 16 * n in
    let used = next_multiple_of (avail + 6 + 2 * n) 4 in
    record { desc = at; avail = avail; used = used; end = used + 6 + 8 * n }

-- rx, tx and event one after another, each from the next multiple of 16 on.
abbrev pub queue_areas_of : ℕ → ℕ → QueueAreas
queue_areas_of at n =
    let rx = areas_of at n in
    let tx = areas_of (next_multiple_of rx.end 16) n in
    let event = areas_of (next_multiple_of tx.end 16) n in
    record { rx = rx; tx = tx; event = event }
