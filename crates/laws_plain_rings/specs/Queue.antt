-- How the lists of one queue's pages in flight lie in its memory.
use Rattle.std.specs.Prelude.{◌≡◌, ℕ, ◌+◌, ◌*◌, ◌%◌, ◌^◌, ◌<◌, ◌≤◌, ◌==◌, List, [], ◌∷◌, ◌++◌, length, slice_index_or, Option, None, Some, if◌then◌else◌, ⊤}
use Rattle.vs_header.specs.declared.TheConstants.{HEADER_LEN}
use Rattle.vs_page.specs.declared.page.TheConstants.{PAGE_LEN}
use Rattle.vs_ring_port.specs.{DriverCalls.HoldsPacket, Lists.Lists, declared.queue.Queue.{Queue, TheVariants.Tx}}
use Rattle.vs_ring_plain.specs.declared.turns.Turns.{Turns}
use Rattle.vs_plain_driver.specs.Queue.{DriverQueueState, desc_for}
use Rattle.laws_plain_rings.specs.Shown.{Shown, Word}

-- How often a number stands in a list.
abbrev pub times : ℕ → List ℕ → ℕ
times id [] = 0
times id (x ∷ xs) = (if id == x then 1 else 0) + times id xs

-- A page that was staged or given stands in the available ring at a place, by its descriptor, and its bytes lie in the descriptor's page.
-- On tx it holds a packet and nothing more.
pub record IsOut (queue : Queue) (at : ℕ) (s : Shown) (place : ℕ) (page : List ℕ) (id : ℕ) : Type 0 where
  pub entry : s.entry place ≡ id
  pub desc : s.desc id ≡ desc_for queue (at + PAGE_LEN * id) (length page)
  pub bytes : s.page id (length page) ≡ page
  pub fits : length page ≤ PAGE_LEN
  pub header : queue ≡ Tx → HEADER_LEN ≤ length page
  pub packet : queue ≡ Tx → HoldsPacket page

-- Pages stand one after another from an index on, by these descriptors.
abbrev pub AreOut : Queue → ℕ → ℕ → Shown → ℕ → List (List ℕ) → List ℕ → Type 0
AreOut queue n at s index [] [] = ⊤
AreOut queue n at s index (page ∷ pages) (id ∷ ids) =
    IsOut queue at s (index % n) page id × AreOut queue n at s (index + 1) pages ids
AreOut queue n at s index _ _ = ⊥

-- A page that was returned stands in the used ring at a place, by its descriptor and its length, and its bytes lie in the
-- descriptor's page.
pub record IsBack (s : Shown) (place : ℕ) (page : List ℕ) (id : ℕ) : Type 0 where
  pub elem : s.elem place ≡ record { id = id; len = length page }
  pub bytes : s.page id (length page) ≡ page
  pub fits : length page ≤ PAGE_LEN

abbrev pub AreBack : ℕ → Shown → ℕ → List (List ℕ) → List ℕ → Type 0
AreBack n s index [] [] = ⊤
AreBack n s index (page ∷ pages) (id ∷ ids) = IsBack s (index % n) page id × AreBack n s (index + 1) pages ids
AreBack n s index _ _ = ⊥

-- A descriptor has a page.
abbrev pub HasPage : List (Option (List ℕ)) → ℕ → Type 0
HasPage pages id = (page : List ℕ) × (slice_index_or pages id None ≡ Some page)

-- A queue of n places whose pages lie from an address on. Each descriptor is free; or staged or given, `out`; or held by the device,
-- `heads`; or returned, `back`. The indices in the memory are those of both ends, and they count the pages in each list. Flags and event
-- words are 0: each end is told of every page.
pub record IsQueueTied (queue : Queue) (n at : ℕ) (s : Shown) (q : DriverQueueState) (t : Turns) (heads : List ℕ) (staged : List (List ℕ))
    (l : Lists) (out back : List ℕ) : Type 0 where
  pub once : (id : ℕ) → times id q.free + times id out + times id heads + times id back ≤ 1
  pub all : length q.free + length out + length heads + length back ≡ n
  pub sized : length q.pages ≡ n
  pub free : (id : ℕ) → 0 < times id q.free → id < n
  pub pages : (id : ℕ) → 0 < times id out + times id heads + times id back → (id < n) × HasPage q.pages id
  pub staged_count : q.staged ≡ length staged
  pub avail : s.avail ≡ q.published
  pub published : q.published ≡ (t.taken + length l.given) % 2 ^ 16
  pub taken : t.taken ≡ (t.used + length heads) % 2 ^ 16
  pub used : s.used ≡ t.used
  pub returned : t.used ≡ (q.reaped + length l.back) % 2 ^ 16
  pub small : q.reaped < 2 ^ 16
  pub place : l.place ≡ t.taken % n
  pub given_out : AreOut queue n at s t.taken (l.given ++ staged) out
  pub back_is : AreBack n s q.reaped l.back back
  pub words : (w : Word) → s.word n w ≡ 0
