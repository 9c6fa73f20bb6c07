-- The pieces of a queue's memory that are written as a whole, and what a write into one of them leaves alone.
use Rattle.std.{proofs.{Common.{◌≡◌, ◌⊎◌, ℕ, ◌+◌, ◌*◌, ◌<◌, ◌≤◌, false, List, [], ◌∷◌, ◌++◌, length, refl, ap, ◌∙◌, arith}, lemmas.Grind.common_steps}, specs.Prelude.⊤}
use Rattle.byteorder.specs.Endian.{little_number}
use Rattle.vs_guest_mem.specs.Memory.{Memory, after_access, after_write, bytes_at}
use Rattle.vs_layout.specs.{Entry.{desc_of, used_elem_of}, declared.place.Areas.Areas}
use Rattle.vs_ring_plain.proofs.Still.{still_after, still_bytes}
use Rattle.vs_ring_port.specs.{Chains.same_queue, declared.queue.Queue.Queue}
use Rattle.laws_plain_rings.{specs.{Tie.{IsAreaLaid, IsLaid}, Shown.{AvailEvent, AvailFlags, Shown, UsedEvent, UsedFlags, Word, shown, word_in}}, proofs.Frames.kept}
use Rattle.laws_plain_rings.proofs.Frames.{length_written, written}

pub data Spot : Type 0 where
  Describing : ℕ → Spot
  AvailIdx : Spot
  Entry : ℕ → Spot
  UsedIdx : Spot
  Elem : ℕ → Spot
  PageOf : ℕ → Spot
  WordOf : ℕ → Word → Spot

-- where it begins, and its length
abbrev pub spot_at : Areas → ℕ → Spot → ℕ
spot_at a at (Describing k) = a.desc + 16 * k
spot_at a at AvailIdx = a.avail + 2
spot_at a at (Entry k) = a.avail + 4 + 2 * k
spot_at a at UsedIdx = a.used + 2
spot_at a at (Elem k) = a.used + 4 + 8 * k
spot_at a at (PageOf k) = at + 4096 * k
spot_at a at (WordOf k w) = (word_in a k w).at

abbrev pub spot_len : Spot → ℕ
spot_len (Describing k) = 16
spot_len AvailIdx = 2
spot_len (Entry k) = 2
spot_len UsedIdx = 2
spot_len (Elem k) = 8
spot_len (PageOf k) = 4096
spot_len (WordOf k w) = 2

-- it is one of a queue of n places
abbrev pub IsSpot : ℕ → Spot → Type 0
IsSpot n (Describing k) = k < n
IsSpot n AvailIdx = ⊤
IsSpot n (Entry k) = k < n
IsSpot n UsedIdx = ⊤
IsSpot n (Elem k) = k < n
IsSpot n (PageOf k) = k < n
IsSpot n (WordOf k w) = k ≡ n

abbrev pub IsOther : Word → Word → Type 0
IsOther AvailFlags AvailFlags = ⊥
IsOther UsedEvent UsedEvent = ⊥
IsOther UsedFlags UsedFlags = ⊥
IsOther AvailEvent AvailEvent = ⊥
IsOther _ _ = ⊤

abbrev pub Differs : Spot → Spot → Type 0
Differs (Describing j) (Describing k) = j ≡ k → ⊥
Differs AvailIdx AvailIdx = ⊥
Differs (Entry j) (Entry k) = j ≡ k → ⊥
Differs UsedIdx UsedIdx = ⊥
Differs (Elem j) (Elem k) = j ≡ k → ⊥
Differs (PageOf j) (PageOf k) = j ≡ k → ⊥
Differs (WordOf j v) (WordOf k w) = IsOther v w
Differs _ _ = ⊤

abbrev pub DiffersAll : List Spot → Spot → Type 0
DiffersAll [] y = ⊤
DiffersAll (x ∷ xs) y = Differs x y × DiffersAll xs y

abbrev IsInside : ℕ → Areas → ℕ → Spot → Type 0
IsInside n a at x = ((a.desc ≤ spot_at a at x) × (spot_at a at x + spot_len x ≤ a.end)) ⊎ ((at ≤ spot_at a at x)
    × (spot_at a at x + spot_len x ≤ at + 4096 * n))

module _ (n : ℕ) (a : Areas) (at : ℕ) (laid : IsAreaLaid n a) (behind : a.end ≤ at) where
  -- two of one queue are apart
  pub apart : (x y : Spot) → IsSpot n x → IsSpot n y → Differs x y
      → (spot_at a at x + spot_len x ≤ spot_at a at y) ⊎ (spot_at a at y + spot_len y ≤ spot_at a at x)
  apart x y is_x is_y other = grind (arith, common_steps, laid.avail, laid.used, laid.end, behind)

  -- it lies in the areas or among the pages
  pub within : (x : Spot) → IsSpot n x → IsInside n a at x
  within x is_x = grind (arith, common_steps, laid.avail, laid.used, laid.end)

-- What stands in every other spot of a queue of n places is what stood there.
pub record Untouched (n : ℕ) (xs : List Spot) (s new : Shown) : Type 0 where
  pub desc : (k : ℕ) → k < n → DiffersAll xs (Describing k) → new.desc k ≡ s.desc k
  pub avail : DiffersAll xs AvailIdx → new.avail ≡ s.avail
  pub entry : (k : ℕ) → k < n → DiffersAll xs (Entry k) → new.entry k ≡ s.entry k
  pub used : DiffersAll xs UsedIdx → new.used ≡ s.used
  pub elem : (k : ℕ) → k < n → DiffersAll xs (Elem k) → new.elem k ≡ s.elem k
  pub page : (k c : ℕ) → k < n → c ≤ 4096 → DiffersAll xs (PageOf k) → new.page k c ≡ s.page k c
  pub word : (w : Word) → DiffersAll xs (WordOf n w) → new.word n w ≡ s.word n w

differs_both : (xs ys : List Spot) (y : Spot) → DiffersAll (xs ++ ys) y → DiffersAll xs y × DiffersAll ys y
differs_both [] ys y other = (tt, other)
differs_both (x ∷ xs) ys y (first, other) = let both = differs_both xs ys y other in ((first, both.0), both.1)

-- one after the other
untouched_then : (n : ℕ) (xs ys : List Spot) (s middle new : Shown) → Untouched n xs s middle → Untouched n ys middle new
    → Untouched n (xs ++ ys) s new
untouched_then n xs ys s middle new one more = grind (arith, common_steps, differs_both)

-- the same bytes are seen in the same way
pub seen_same : (a : Areas) (at : ℕ) (m new : Memory) → new.base ≡ m.base → new.bytes ≡ m.bytes → shown a at new ≡ shown a at m
seen_same a at m new base bytes = grind (arith, common_steps)

-- where the areas and pages begin where they began, they lie as they lay
pub laid_same : (n : ℕ) (areas : Queue → Areas) (from to : Queue → ℕ) (m new : Memory) → ((q : Queue) → to q ≡ from q)
    → new.base ≡ m.base → length new.bytes ≡ length m.bytes → IsLaid n areas from m → IsLaid n areas to new
laid_same n areas from to m new same base size laid = grind (arith, common_steps)

-- A memory to which no change is to come, in which of one queue these spots alone were written.
pub record Wrote (n : ℕ) (areas : Queue → Areas) (at : Queue → ℕ) (q : Queue) (xs : List Spot) (m new : Memory) : Type 0 where
  pub still : new.changes ≡ []
  pub laid : IsLaid n areas at new
  pub own : Untouched n xs (shown (areas q) (at q) m) (shown (areas q) (at q) new)
  pub other : (r : Queue) → same_queue q r ≡ false → Untouched n [] (shown (areas r) (at r) m) (shown (areas r) (at r) new)

pub wrote_then : {n : ℕ} {areas : Queue → Areas} {at : Queue → ℕ} {q : Queue} {xs ys : List Spot} {m middle new : Memory}
    → Wrote n areas at q xs m middle → Wrote n areas at q ys middle new → Wrote n areas at q (xs ++ ys) m new
wrote_then {n} {xs = xs} {ys = ys} one more = record {
  still = more.still;
  laid = more.laid;
  own = untouched_then n xs ys _ _ _ one.own more.own;
  other = λ r apart. untouched_then n [] [] _ _ _ (one.other r apart) (more.other r apart);
}

-- a memory with the same bytes to which no change is to come
pub record IsQuietly (m new : Memory) : Type 0 where
  pub still : new.changes ≡ []
  pub base : new.base ≡ m.base
  pub bytes : new.bytes ≡ m.bytes

pub quietly_now : (m : Memory) → m.changes ≡ [] → IsQuietly m m
quietly_now m still = record { still = still; base = refl; bytes = refl }

pub quietly_after : (m new : Memory) → IsQuietly m new → IsQuietly m (after_access new)
quietly_after m new q = record { still = still_after new q.still; base = q.base; bytes = still_bytes new q.still ∙ q.bytes }

pub quietly_wrote : {n : ℕ} {areas : Queue → Areas} {at : Queue → ℕ} {m new : Memory} → IsLaid n areas at m → (q : Queue) (xs : List Spot)
    → IsQuietly m new → Wrote n areas at q xs m new
quietly_wrote {n} {areas} {at} {m} {new} laid q xs quietly = grind (arith, common_steps)

-- a write of bytes into a spot of one queue
module _ {n : ℕ} {areas : Queue → Areas} {at : Queue → ℕ} {m : Memory} (laid : IsLaid n areas at m) where
  in_memory : (q : Queue) (x : Spot) → IsSpot n x
      → (m.base ≤ spot_at (areas q) (at q) x) × (spot_at (areas q) (at q) x + spot_len x ≤ m.base + length m.bytes)
  in_memory q x is_x =
      let e = laid.each q in
      let from = laid.low q in
      let to = laid.high q in
      let behind = laid.behind q q in
      let inside = within n (areas q) (at q) e behind x is_x in
      grind (arith, common_steps, e.avail, e.used, e.end)

  -- spots of two queues are apart
  across : (q r : Queue) → same_queue q r ≡ false → (x y : Spot) → IsSpot n x → IsSpot n y
      → (spot_at (areas q) (at q) x + spot_len x ≤ spot_at (areas r) (at r) y) ⊎ (spot_at (areas r) (at r) y + spot_len y ≤ spot_at
      (areas q) (at q) x)
  across q r other x y is_x is_y = grind (arith, common_steps)

  module _ (q : Queue) (x : Spot) (is_x : IsSpot n x) (addr : ℕ) (bytes : List ℕ) (from : spot_at (areas q) (at q) x ≤ addr)
      (to : addr + length bytes ≤ spot_at (areas q) (at q) x + spot_len x) where
    abbrev new : Memory
    new = after_write m addr bytes

    pub low : m.base ≤ addr
    low = omega (arith, (in_memory q x is_x).0, from)

    pub high : addr + length bytes ≤ m.base + length m.bytes
    high = omega (arith, (in_memory q x is_x).1, to)

    -- what is read in a spot that is apart
    unread : (r : Queue) (y : Spot) → IsSpot n y → (b k : ℕ) → spot_at (areas r) (at r) y ≤ b
        → b + k ≤ spot_at (areas r) (at r) y + spot_len y
        → (spot_at (areas q) (at q) x + spot_len x ≤ spot_at (areas r) (at r) y) ⊎ (spot_at (areas r) (at r) y + spot_len y ≤ spot_at
        (areas q) (at q) x)
        → bytes_at new b k ≡ bytes_at m b k
    unread r y is_y b k from_b to_b beside =
        kept m addr bytes b k low high (omega (arith, (in_memory r y is_y).0, from_b)) (grind (arith, common_steps))

    pub own : (y : Spot) → IsSpot n y → Differs x y → (b k : ℕ) → spot_at (areas q) (at q) y ≤ b
        → b + k ≤ spot_at (areas q) (at q) y + spot_len y
        → bytes_at new b k ≡ bytes_at m b k
    own y is_y other b k from_b to_b =
        unread q y is_y b k from_b to_b (apart n (areas q) (at q) (laid.each q) (laid.behind q q) x y is_x is_y other)

    untouched : (r : Queue) (xs : List Spot) → ((y : Spot) → IsSpot n y → DiffersAll xs y → (b k : ℕ) → spot_at (areas r) (at r) y ≤ b
        → b + k ≤ spot_at (areas r) (at r) y + spot_len y → bytes_at new b k ≡ bytes_at m b k)
        → Untouched n xs (shown (areas r) (at r) m) (shown (areas r) (at r) new)
    untouched r xs same = record {
      desc = λ k is other. ap desc_of (same (Describing k) is other _ 16 (omega arith) (omega arith));
      avail = λ other. ap (little_number 2) (same AvailIdx tt other _ 2 (omega arith) (omega arith));
      entry = λ k is other. ap (little_number 2) (same (Entry k) is other _ 2 (omega arith) (omega arith));
      used = λ other. ap (little_number 2) (same UsedIdx tt other _ 2 (omega arith) (omega arith));
      elem = λ k is other. ap used_elem_of (same (Elem k) is other _ 8 (omega arith) (omega arith));
      page = λ k c is few other. same (PageOf k) is other _ c (omega arith) (omega (arith, few));
      word = λ w other. ap (little_number 2) (same (WordOf n w) refl other _ 2 (omega arith) (omega arith));
    }

    pub wrote : m.changes ≡ [] → Wrote n areas at q (x ∷ []) m new
    wrote still = record {
      still = still;
      laid = laid_same n areas at at m new (λ q. refl) refl (length_written m addr bytes low high) laid;
      own = untouched q (x ∷ []) (λ y is other. own y is other.0);
      other = λ r other. untouched r [] (λ y is _ b k from to. unread r y is b k from to (across q r other x y is_x is));
    }

    pub read_back : bytes_at new addr (length bytes) ≡ bytes
    read_back = written m addr bytes low high
