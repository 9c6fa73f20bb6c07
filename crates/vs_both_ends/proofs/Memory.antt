-- The sizes that rings come in, and the memory of standard rings of each.
use Rattle.std.proofs.Common.{◌≡◌, inl, inr, ℕ, ◌+◌, ◌<◌, ◌≤◌, [], length, Some, refl, sym, subst, arith}
use Rattle.vs_guest_mem.specs.Memory.{Memory}
use Rattle.vs_layout.specs.Layout.{queue_areas_of}
use Rattle.vs_ring_list.specs.Ends.{IsQueueSize, empty_ends}
use Rattle.laws_plain_rings.specs.Exposed.{first_ends}
use Rattle.vs_both_ends.specs.Standard.{memory_size}

of_sizes : (P : ℕ → Type 0) → P 8 → P 16 → P 32 → P 64 → P 128 → P 256 → (n : ℕ) → IsQueueSize n → P n
of_sizes P a b c d e f n (inl is) = subst P (sym is) a
of_sizes P a b c d e f n (inr (inl is)) = subst P (sym is) b
of_sizes P a b c d e f n (inr (inr (inl is))) = subst P (sym is) c
of_sizes P a b c d e f n (inr (inr (inr (inl is)))) = subst P (sym is) d
of_sizes P a b c d e f n (inr (inr (inr (inr (inl is))))) = subst P (sym is) e
of_sizes P a b c d e f n (inr (inr (inr (inr (inr is))))) = subst P (sym is) f

-- The areas end below 65,536, and lie in the memory.
pub record Fits (n : ℕ) : Type 0 where
  pub nonzero : 0 < n
  pub limit : n ≤ 256
  pub low : 4096 ≤ (queue_areas_of 4096 n).event.end
  pub end : (queue_areas_of 4096 n).event.end < 65536
  pub size : memory_size n ≤ 16777216
  pub inside : (queue_areas_of 4096 n).event.end ≤ 4096 + memory_size n

fits_8 : Fits 8
fits_8 = record { nonzero = omega arith; limit = omega arith; low = omega arith; end = omega arith; size = omega arith; inside = omega arith }

fits_16 : Fits 16
fits_16 = record { nonzero = omega arith; limit = omega arith; low = omega arith; end = omega arith; size = omega arith; inside = omega arith }

fits_32 : Fits 32
fits_32 = record { nonzero = omega arith; limit = omega arith; low = omega arith; end = omega arith; size = omega arith; inside = omega arith }

fits_64 : Fits 64
fits_64 = record { nonzero = omega arith; limit = omega arith; low = omega arith; end = omega arith; size = omega arith; inside = omega arith }

fits_128 : Fits 128
fits_128 = record { nonzero = omega arith; limit = omega arith; low = omega arith; end = omega arith; size = omega arith; inside = omega arith }

fits_256 : Fits 256
fits_256 = record { nonzero = omega arith; limit = omega arith; low = omega arith; end = omega arith; size = omega arith; inside = omega arith }

pub fits_at : (n : ℕ) → IsQueueSize n → Fits n
fits_at = of_sizes Fits fits_8 fits_16 fits_32 fits_64 fits_128 fits_256

-- The two ends alone change a memory of this size.
abbrev AreKnown : ℕ → Type 0
AreKnown n = (m : Memory) → m.base ≡ 4096 → length m.bytes ≡ memory_size n → m.changes ≡ [] → first_ends m 4096 n ≡ Some (empty_ends n)

known_8 : AreKnown 8
known_8 m base size still = rw (base, size, still) refl

known_16 : AreKnown 16
known_16 m base size still = rw (base, size, still) refl

known_32 : AreKnown 32
known_32 m base size still = rw (base, size, still) refl

known_64 : AreKnown 64
known_64 m base size still = rw (base, size, still) refl

known_128 : AreKnown 128
known_128 m base size still = rw (base, size, still) refl

known_256 : AreKnown 256
known_256 m base size still = rw (base, size, still) refl

pub known_at : (n : ℕ) → IsQueueSize n → AreKnown n
known_at = of_sizes AreKnown known_8 known_16 known_32 known_64 known_128 known_256
