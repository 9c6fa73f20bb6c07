-- A guest's memory, and what others write into it between a device's accesses. An access is one read or write of one contiguous
-- piece of at least one byte.
use Rattle.std.specs.Prelude.{ℕ, ◌+◌, ◌-◌, ◌<◌, ◌^◌, ◌==◌, ◌||◌, ◌&&◌, Bool, IsTrue, nat_le, nat_lt, List, [], ◌++◌, length, take, drop}
use Rattle.std.specs.{Prelude.filter, Prelude.fold, Prelude.replicate, Prelude.min, Prelude.if◌then◌else◌, Prelude.All, List.retain_mut}

-- A write that is to be made before an access to come: the first from now on is 1.
pub record Change : Type 0 where
  pub nth : ℕ
  pub addr : ℕ
  pub bytes : List ℕ

-- The bytes from an address on, the accesses made so far, and the changes to come in the order in which they were added.
pub record Memory : Type 0 where
  pub base : ℕ
  pub bytes : List ℕ
  pub accesses : ℕ
  pub changes : List Change

-- Memory that was just made: all bytes are 0.
abbrev pub zeroed : ℕ → ℕ → Memory
zeroed base size = record { base = base; bytes = replicate size 0; accesses = 0; changes = [] }

-- Each byte of a piece lies in the size bytes from base on. A piece of no bytes lies there wherever it begins.
abbrev pub is_within : ℕ → ℕ → ℕ → ℕ → Bool
is_within base size addr len = (len == 0) || (nat_le base addr && nat_le (addr + len) (base + size))

-- Each byte of a piece is one of the memory.
abbrev pub is_inside : Memory → ℕ → ℕ → Bool
is_inside m addr len = is_within m.base (length m.bytes) addr len

-- The bytes of a piece.
abbrev pub bytes_at : Memory → ℕ → ℕ → List ℕ
bytes_at m addr len = take len (drop (addr - m.base) m.bytes)

-- A list with others in place of its elements from a place on.
abbrev pub overwritten : List ℕ → ℕ → List ℕ → List ℕ
overwritten old at new = take at old ++ new ++ drop (at + length new) old

-- Memory after bytes were written at an address.
abbrev pub after_write : Memory → ℕ → List ℕ → Memory
after_write m addr bytes = record m { bytes = overwritten m.bytes (addr - m.base) bytes }

-- A change that is made before the next access.
abbrev pub is_due : Change → Bool
is_due c = nat_le c.nth 1

-- A change that is made before an access after the next one.
abbrev pub is_later : Change → Bool
is_later c = nat_lt 1 c.nth

-- A change when one access has passed.
abbrev pub nearer : Change → Change
nearer c = record c { nth = c.nth - 1 }

-- The bytes from base on after changes, made in their order.
abbrev pub after_changes : ℕ → List ℕ → List Change → List ℕ
after_changes base bytes changes = fold (λ (now : List ℕ) (c : Change). overwritten now (c.addr - base) c.bytes) bytes changes

-- An access: before it the changes that are due are made, once. Those that are left are one access nearer. The count of accesses
-- stands still at its type's last value.
abbrev pub after_access : Memory → Memory
after_access m = record {
  base = m.base;
  bytes = after_changes m.base m.bytes (filter is_due m.changes);
  accesses = min (m.accesses + 1) (2 ^ 64 - 1);
  changes = retain_mut is_later nearer m.changes;
}

-- A read or write of a piece of len bytes is one access; an empty piece is none.
abbrev pub accessed : Memory → ℕ → Memory
accessed m len = if len == 0 then m else after_access m

-- Each change to come lies inside the memory, whose addresses are numbers of 64 bits.
pub record IsSound (m : Memory) : Type 0 where
  pub fits : m.base + length m.bytes < 2 ^ 64
  pub inside : All (λ (c : Change). IsTrue (is_inside m c.addr (length c.bytes))) m.changes
