-- 16 bytes come back from the descriptor that they hold.
use Rattle.std.proofs.{Common.{◌≡◌, ℕ, ◌+◌, ◌<◌, ◌≤◌, List, ◌++◌, length, take, drop, slice_index, refl, arith, length-drop, get_or-drop, ◌∙◌}, lemmas.List.drop-drop}
use Rattle.std.proofs.lemmas.List.{take-append-drop, take_all}
use Rattle.byteorder.specs.Endian.{little_bytes}
use Rattle.vs_header.{specs.Packet.field_at, proofs.RoundTrip.little_bytes-little_number}
use Rattle.vs_layout.specs.Entry.{desc_bytes, desc_of}

-- the n bytes from a place, and what stands after them
joined : (n place next : ℕ) (xs front rest : List ℕ) → place + n ≡ next → front ≡ take n (drop place xs) → rest ≡ drop next xs
    → front ++ rest ≡ drop place xs
joined n place next xs front rest at f r =
    rw (f, r, ← at, ← drop-drop n place xs) (take-append-drop n (drop place xs))

pub desc_bytes-desc_of : (xs : List ℕ) → length xs ≡ 16 → ((i : ℕ) → slice_index xs i < 256) → desc_bytes (desc_of xs) ≡ xs
desc_bytes-desc_of xs len fit =
    joined 8 0 8 xs _ _ refl (field 0 8 (omega arith)) (
    joined 4 8 12 xs _ _ refl (field 8 4 (omega arith)) (
    joined 2 12 14 xs _ _ refl (field 12 2 (omega arith)) (
    field 14 2 (omega arith) ∙ take_all 2 (drop 14 xs) (omega (arith, length-drop 14 xs)))))
  where
    field : (place n : ℕ) → place + n ≤ 16 → little_bytes n (field_at place n xs) ≡ take n (drop place xs)
    field place n within =
        little_bytes-little_number n (drop place xs) (omega (arith, length-drop place xs)) (λ i. rw get_or-drop (fit (place + i)))
