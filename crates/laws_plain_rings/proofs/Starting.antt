-- Both ends before the first call.
use Rattle.std.proofs.Common.{◌≡◌, ℕ, zero, suc, ◌+◌, ◌*◌, ◌%◌, ◌^◌, ◌<◌, ◌≤◌, Bool, true, false, cond, List, [], ◌∷◌, length, Option, None, Some, refl, sym, ap, ◌∙◌}
use Rattle.std.proofs.{Common.{subst, arith}, lemmas.{Bool.Decides.nat_tests, List.{length-replicate, nil_from_length, FromFn.length-range_with_len}, Grind.common_steps}}
use Rattle.std.specs.{List.range_with_len, Prelude.{◌==◌, ◌&&◌, is_some}}
use Rattle.byteorder.specs.Endian.{little_number}
use Rattle.vs_guest_mem.specs.Memory.{Memory, after_write, bytes_at}
use Rattle.vs_layout.specs.{Layout.queue_areas_of, declared.{place.Areas.Areas, placement.QueueAreas.QueueAreas}}
use Rattle.vs_limits.specs.declared.TheConstants.{FIRST_CID}
use Rattle.vs_ring_port.specs.{Chains.same_queue, declared.queue.Queue.{Queue, TheVariants.{Rx, Tx, Event}}}
use Rattle.vs_ring_list.specs.Ends.{empty_ends}
use Rattle.vs_ring_plain.specs.Device.{areas_at, cleared_used, new_device}
use Rattle.vs_plain_driver.specs.Queue.{cleared_avail}
use Rattle.laws_plain_rings.specs.{Parts.{PartsState, driver_at, new_parts, new_queue, pages_start, cleared}, Queue.{IsQueueTied, times}, Shown.{AvailEvent, AvailFlags, Shown}}
use Rattle.laws_plain_rings.specs.{Shown.{UsedEvent, UsedFlags, Word, shown}, Tie.{AreTied, IsLaid, IsTiedAt, IsTiedTo, start_of}, Exposed.first_ends}
use Rattle.laws_plain_rings.proofs.{Modulo.mod_small, Spots.{AvailIdx, Differs, DiffersAll, IsSpot, Spot, Untouched, UsedIdx, WordOf, laid_same, own, spot_at, spot_len, Wrote}}
use Rattle.laws_plain_rings.proofs.{Spots.{wrote, wrote_then, read_back}, Queues.of_each}

-- the numbers below n, each once
no_less : (j a k : ℕ) → j < a → times j (range_with_len a k) ≡ 0
no_less j a zero less = refl
no_less j a (suc k) less = grind (arith, nat_tests, less, no_less j (a + 1) k (omega (arith, less)))

once_each : (j a k : ℕ) → times j (range_with_len a k) ≤ 1
once_each j a zero = omega arith
once_each j a (suc k) = grind (arith, nat_tests, once_each j (a + 1) k, no_less j (a + 1) k)

under_all : (j a k : ℕ) → 0 < times j (range_with_len a k) → j < a + k
under_all j a zero some = absurd (omega (arith, some))
under_all j a (suc k) some = grind (arith, nat_tests, some, under_all j (a + 1) k)

-- three words of a queue are set to 0
module _ {n : ℕ} {areas : Queue → Areas} {at : Queue → ℕ} {m : Memory} (laid : IsLaid n areas at m) (still : m.changes ≡ []) (q : Queue)
    (x y z : Spot) (is_x : IsSpot n x) (is_y : IsSpot n y) (is_z : IsSpot n z) (two_x : spot_len x ≡ 2) (two_y : spot_len y ≡ 2)
    (two_z : spot_len z ≡ 2) where
  abbrev zeros : List ℕ
  zeros = 0 ∷ 0 ∷ []

  abbrev X : ℕ
  X = spot_at (areas q) (at q) x

  abbrev Y : ℕ
  Y = spot_at (areas q) (at q) y

  abbrev Z : ℕ
  Z = spot_at (areas q) (at q) z

  abbrev m1 : Memory
  m1 = after_write m X zeros

  abbrev m2 : Memory
  m2 = after_write m1 Y zeros

  abbrev m3 : Memory
  m3 = after_write m2 Z zeros

  w1 : Wrote n areas at q (x ∷ []) m m1
  w1 = wrote laid q x is_x X zeros (omega arith) (omega (arith, two_x)) still

  w2 : Wrote n areas at q (y ∷ []) m1 m2
  w2 = wrote w1.laid q y is_y Y zeros (omega arith) (omega (arith, two_y)) still

  three : Wrote n areas at q (x ∷ y ∷ z ∷ []) m m3
  three = wrote_then w1 (wrote_then w2 (wrote w2.laid q z is_z Z zeros (omega arith) (omega (arith, two_z)) still))

  all_zero : Differs y x → Differs z x → Differs z y
      → (bytes_at m3 X 2 ≡ zeros) × (bytes_at m3 Y 2 ≡ zeros) × (bytes_at m3 Z 2 ≡ zeros)
  all_zero y_x z_x z_y = (
    own w2.laid q z is_z Z zeros (omega arith) (omega (arith, two_z)) x is_x z_x X 2 (omega arith) (omega (arith, two_x))
        ∙ own w1.laid q y is_y Y zeros (omega arith) (omega (arith, two_y)) x is_x y_x X 2 (omega arith) (omega (arith, two_x))
        ∙ read_back laid q x is_x X zeros (omega arith) (omega (arith, two_x)),
    own w2.laid q z is_z Z zeros (omega arith) (omega (arith, two_z)) y is_y z_y Y 2 (omega arith) (omega (arith, two_y))
        ∙ read_back w1.laid q y is_y Y zeros (omega arith) (omega (arith, two_y)),
    read_back w2.laid q z is_z Z zeros (omega arith) (omega (arith, two_z)),
  )

-- what the driver wrote, and what the device wrote
record IsClear (n : ℕ) (s : Shown) (v w : Word) (index : ℕ) : Type 0 where
  pub flags : s.word n v ≡ 0
  pub index_is : index ≡ 0
  pub event : s.word n w ≡ 0

abbrev IsAvailClear : ℕ → Shown → Type 0
IsAvailClear n s = IsClear n s AvailFlags UsedEvent s.avail

abbrev IsUsedClear : ℕ → Shown → Type 0
IsUsedClear n s = IsClear n s UsedFlags AvailEvent s.used

stays : {n : ℕ} {xs : List Spot} {s new : Shown} (v w : Word) {old index : ℕ} → Untouched n xs s new → DiffersAll xs (WordOf n v)
    → index ≡ old → DiffersAll xs (WordOf n w) → IsClear n s v w old → IsClear n new v w index
stays v w u flags same event clear = grind (arith, common_steps)

all_words : (n : ℕ) (s : Shown) → IsAvailClear n s → IsUsedClear n s → (w : Word) → s.word n w ≡ 0
all_words n s avail used w = grind (arith, common_steps, avail.flags, avail.event, used.flags, used.event)

module _ {n : ℕ} {areas : Queue → Areas} {at : Queue → ℕ} {m : Memory} (laid : IsLaid n areas at m) (still : m.changes ≡ [])
    (q : Queue) where
  abbrev avail_after : Memory
  avail_after = cleared_avail (areas q) n m

  abbrev used_after : Memory
  used_after = cleared_used (areas q) n m

  abbrev see : Queue → Memory → Shown
  see r x = shown (areas r) (at r) x

  avail_wrote : Wrote n areas at q (WordOf n AvailFlags ∷ AvailIdx ∷ WordOf n UsedEvent ∷ []) m avail_after
  avail_wrote = three laid still q (WordOf n AvailFlags) AvailIdx (WordOf n UsedEvent) refl tt refl refl refl refl

  used_wrote : Wrote n areas at q (WordOf n UsedFlags ∷ UsedIdx ∷ WordOf n AvailEvent ∷ []) m used_after
  used_wrote = three laid still q (WordOf n UsedFlags) UsedIdx (WordOf n AvailEvent) refl tt refl refl refl refl

  avail_clear : IsAvailClear n (see q avail_after)
  avail_clear =
      let z = all_zero laid still q (WordOf n AvailFlags) AvailIdx (WordOf n UsedEvent) refl tt refl refl refl refl tt tt tt in
      record { flags = ap (little_number 2) z.0; index_is = ap (little_number 2) z.1; event = ap (little_number 2) z.2 }

  used_clear : IsUsedClear n (see q used_after)
  used_clear =
      let z = all_zero laid still q (WordOf n UsedFlags) UsedIdx (WordOf n AvailEvent) refl tt refl refl refl refl tt tt tt in
      record { flags = ap (little_number 2) z.0; index_is = ap (little_number 2) z.1; event = ap (little_number 2) z.2 }

  -- each leaves the other ring, and other queues, alone
  avail_each : (r : Queue) → (same_queue q r ≡ false → IsAvailClear n (see r m)) → IsAvailClear n (see r avail_after)
  avail_each = of_each (λ r. (same_queue q r ≡ false → IsAvailClear n (see r m)) → IsAvailClear n (see r avail_after)) q
      (λ _. avail_clear)
      (λ r other before. let u = avail_wrote.other r other in stays AvailFlags UsedEvent u tt (u.avail tt) tt (before other))

  used_each : (r : Queue) → (same_queue q r ≡ false → IsUsedClear n (see r m)) → IsUsedClear n (see r used_after)
  used_each = of_each (λ r. (same_queue q r ≡ false → IsUsedClear n (see r m)) → IsUsedClear n (see r used_after)) q (λ _. used_clear)
      (λ r other before. let u = used_wrote.other r other in stays UsedFlags AvailEvent u tt (u.used tt) tt (before other))

  avail_stays : (r : Queue) → IsAvailClear n (see r m) → IsAvailClear n (see r used_after)
  avail_stays = of_each (λ r. IsAvailClear n (see r m) → IsAvailClear n (see r used_after)) q
      (λ clear. stays AvailFlags UsedEvent used_wrote.own (tt, (tt, (tt, tt))) (used_wrote.own.avail (tt, (tt, (tt, tt))))
      (tt, (tt, (tt, tt))) clear)
      (λ r other clear. let u = used_wrote.other r other in stays AvailFlags UsedEvent u tt (u.avail tt) tt clear)

-- one queue with no page in flight
empty_tie : (queue : Queue) (n at : ℕ) (s : Shown) → 0 < n → IsAvailClear n s → IsUsedClear n s
    → IsQueueTied queue n at s (new_queue n (Some at)) (record { taken = 0; used = 0 }) [] [] (record {
      given = [];
      back = [];
      place =
          0;
    }) [] []
empty_tie queue n at s nonzero avail used = record {
  once = λ id. omega (arith, once_each id 0 n);
  all = omega (arith, length-range_with_len 0 n);
  sized = length-replicate n None;
  free = λ id some. omega (arith, under_all id 0 n some);
  pages = λ id some. absurd (omega (arith, some));
  staged_count = refl;
  avail = avail.index_is;
  published = refl;
  taken = refl;
  used = used.index_is;
  returned = refl;
  small = omega arith;
  place = sym (mod_small 0 n nonzero);
  given_out = tt;
  back_is = tt;
  words = all_words n s avail used;
}

-- where the pages begin
-- the three queues one after another, and their pages behind them
module _ (m : Memory) (base n at : ℕ) (indirect : Bool) (nonzero : 0 < n) (limit : n ≤ 32768) (divides : 2 ^ 16 % n
    ≡ 0) (still : m.changes ≡ [])
    (fits : m.base + length m.bytes < 2 ^ 64) (from : m.base ≤ base) (pages : pages_start m (queue_areas_of base n).event.end n
    ≡ Some at) where
  abbrev all : QueueAreas
  all = queue_areas_of base n

  abbrev areas : Queue → Areas
  areas q = areas_at q all

  abbrev start : Queue → ℕ
  start Rx = at
  start Tx = at + 4096 * n
  start Event = at + 2 * (4096 * n)

  laid : IsLaid n areas start m
  laid = grind (arith, common_steps)

  abbrev after_all : Memory
  after_all = cleared all n m

  record IsCleared : Type 0 where
    laid : IsLaid n areas start after_all
    avail : (q : Queue) → IsAvailClear n (shown (areas q) (start q) after_all)
    used : (q : Queue) → IsUsedClear n (shown (areas q) (start q) after_all)

  clear : IsCleared
  clear =
      let a1 = avail_wrote laid still Rx in
      let a2 = avail_wrote a1.laid still Tx in
      let a3 = avail_wrote a2.laid still Event in
      let u1 = used_wrote a3.laid still Rx in
      let u2 = used_wrote u1.laid still Tx in record {
        laid = (used_wrote u2.laid still Event).laid;
        avail = λ q. avail_stays u2.laid still Event q (avail_stays u1.laid still Tx q (avail_stays a3.laid still Rx q
            (avail_each a2.laid still Event q (λ e. avail_each a1.laid still Tx q (λ t. avail_each laid still Rx q (λ r.
            absurd (none q r t e)))))));
        used = λ q. used_each u2.laid still Event q (λ e. used_each u1.laid still Tx q (λ t. used_each a3.laid still Rx q (λ r.
            absurd (none q r t e))));
      }
    where
      none : (q : Queue) → same_queue Rx q ≡ false → same_queue Tx q ≡ false → same_queue Event q ≡ false → ⊥
      none q r t e = grind (arith, common_steps)

  abbrev made : PartsState
  made = record {
    device = new_device after_all n all indirect;
    rx = new_queue n (Some at);
    tx = new_queue n (Some (at + 4096 * n));
    event = new_queue n (Some (at + 2 * (4096 * n)));
    cid = FIRST_CID;
  }

  made_is : new_parts m base n indirect ≡ made
  made_is = rw pages refl

  same_start : (q : Queue) → start_of made q ≡ start q
  same_start queue = search arith

  made_tied : AreTied made (empty_ends n)
  made_tied = record {
    still = still;
    laid = laid_same n areas start (start_of made) after_all after_all same_start refl refl clear.laid;
    there = there;
    sizes = sizes;
    size = refl;
    cid = refl;
    queues = queues;
    held = tt;
    logs = record { driver_fair = λ f. tt; device_fair = λ f. tt; tx = refl; rx = refl; event = refl; no_event = refl };
  }
    where
      there : (q : Queue) → (driver_at q made).pages_at ≡ Some (start_of made q)
      there queue = search arith

      sizes : (q : Queue) → (driver_at q made).n ≡ n
      sizes queue = search arith

      queues : (q : Queue) → IsTiedAt made (empty_ends n) q
      queues Rx = ([], [], empty_tie Rx n at (shown all.rx at after_all) nonzero (clear.avail Rx) (clear.used Rx))
      queues Tx = ([], [], empty_tie Tx n (at + 4096 * n) (shown all.tx (at + 4096 * n) after_all) nonzero (clear.avail Tx) (clear.used Tx))
      queues Event =
          let start = at + 2 * (4096 * n) in
          ([], [], empty_tie Event n start (shown all.event start after_all) nonzero (clear.avail Event) (clear.used Event))

  pub new_tied : AreTied (new_parts m base n indirect) (empty_ends n)
  new_tied = subst (λ (p : PartsState). AreTied p (empty_ends n)) (sym made_is) made_tied

-- they are tied where they alone change the memory
pub told_new : (m : Memory) (base n : ℕ) (indirect : Bool) → 0 < n → n ≤ 32768 → m.base + length m.bytes < 2 ^ 64 → m.base ≤ base
    → IsTiedTo (new_parts m base n indirect) (first_ends m base n)
told_new m base n indirect nonzero limit fits from =
    by (length m.changes == 0) refl (pages_start m (queue_areas_of base n).event.end n) refl (2 ^ 16 % n == 0) refl
  where
    by : (a : Bool) → (length m.changes == 0) ≡ a → (o : Option ℕ) → pages_start m (queue_areas_of base n).event.end n ≡ o
        → (c : Bool) → (2 ^ 16 % n == 0) ≡ c → IsTiedTo (new_parts m base n indirect) (cond (a && is_some o && c) (Some (empty_ends
        n)) None)
    by false still o pages c divides = tt
    by true still None pages c divides = tt
    by true still (Some at) pages false divides = tt
    by true still (Some at) pages true divides =
        new_tied m base n at indirect nonzero limit (grind (arith, nat_tests, divides))
        (nil_from_length m.changes (grind (arith, nat_tests, still))) fits from pages
