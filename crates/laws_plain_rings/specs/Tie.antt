-- How the memory of standard rings holds the lists of pages in flight.
use Rattle.std.specs.Prelude.{◌≡◌, ◌⊎◌, ℕ, ◌+◌, ◌*◌, ◌%◌, ◌^◌, ◌<◌, ◌≤◌, false, List, [], ◌∷◌, length, Option, None, Some, IfSome, if◌then◌else◌, ⊤}
use Rattle.vs_guest_mem.specs.Memory.{Memory}
use Rattle.vs_layout.specs.declared.place.Areas.{Areas}
use Rattle.vs_page.specs.declared.page.TheConstants.{PAGE_LEN}
use Rattle.vs_ring_port.specs.{Chains.{Held, same_queue}, EndLog.pages_at, Lists.queue_of, declared.queue.{Queue.Queue, TheConstants.QUEUE_SIZE_MAX}}
use Rattle.vs_ring_list.specs.{Ends.Ends, Sound.IsTied}
use Rattle.vs_ring_plain.specs.{Device.{HeldChain, areas_at, turns_at}, Still.IsStill}
use Rattle.laws_plain_rings.specs.{Parts.{PartsState, driver_at}, Queue.IsQueueTied, Shown.{Shown, Word, shown}}

-- The three areas of a queue of n places, one after another.
pub record IsAreaLaid (n : ℕ) (a : Areas) : Type 0 where
  pub avail : a.desc + 16 * n ≤ a.avail
  pub used : a.avail + 6 + 2 * n ≤ a.used
  pub end : a.used + 6 + 8 * n ≤ a.end

-- The three queues of n places and their pages lie in the memory, no two of them with a byte in common. n divides 2^16.
pub record IsLaid (n : ℕ) (areas : Queue → Areas) (at : Queue → ℕ) (m : Memory) : Type 0 where
  pub nonzero : 0 < n
  pub limit : n ≤ QUEUE_SIZE_MAX
  pub divides : 2 ^ 16 % n ≡ 0
  pub fits : m.base + length m.bytes < 2 ^ 64
  pub each : (q : Queue) → IsAreaLaid n (areas q)
  pub low : (q : Queue) → m.base ≤ (areas q).desc
  pub behind : (q r : Queue) → (areas q).end ≤ at r
  pub high : (q : Queue) → at q + PAGE_LEN * n ≤ m.base + length m.bytes
  pub areas_apart : (q r : Queue) → same_queue q r ≡ false → ((areas q).end ≤ (areas r).desc) ⊎ ((areas r).end ≤ (areas q).desc)
  pub pages_apart : (q r : Queue) → same_queue q r ≡ false → (at q + PAGE_LEN * n ≤ at r) ⊎ (at r + PAGE_LEN * n ≤ at q)

-- The first descriptors of the chains of a queue that the device holds.
abbrev pub heads_of : Queue → List HeldChain → List ℕ
heads_of queue [] = []
heads_of queue (h ∷ held) = if same_queue queue h.chain.queue then h.head ∷ heads_of queue held else heads_of queue held

-- A chain that the device holds has one piece, the page of its descriptor, and the chain's bytes lie there.
pub record IsHeldAs (at : Queue → ℕ) (s : Queue → Shown) (h : HeldChain) (g : Held) : Type 0 where
  pub chain : h.chain ≡ g.chain
  pub pieces : h.pieces ≡ record { addr = at h.chain.queue + PAGE_LEN * h.head; len = h.chain.readable + h.chain.writable } ∷ []
  pub bytes : (s h.chain.queue).page h.head (length g.bytes) ≡ g.bytes
  pub fits : length g.bytes ≤ PAGE_LEN
  pub room : h.chain.readable + h.chain.writable ≤ PAGE_LEN
  pub readable : h.chain.readable ≤ length g.bytes

abbrev pub AreHeldAs : (Queue → ℕ) → (Queue → Shown) → List HeldChain → List Held → Type 0
AreHeldAs at s [] [] = ⊤
AreHeldAs at s (h ∷ held) (g ∷ chains) = IsHeldAs at s h g × AreHeldAs at s held chains
AreHeldAs at s _ _ = ⊥

-- Where the pages of a queue begin.
abbrev pub start_in : Option ℕ → ℕ
start_in None = 0
start_in (Some at) = at

abbrev pub start_of : PartsState → Queue → ℕ
start_of p queue = start_in (driver_at queue p).pages_at

abbrev pub areas_of : PartsState → Queue → Areas
areas_of p queue = areas_at queue p.device.areas

abbrev pub shown_of : PartsState → Queue → Shown
shown_of p queue = shown (areas_of p queue) (start_of p queue) p.device.memory

-- Flags and event words of every queue are 0: each end wants to be told of every page.
abbrev pub AreWordsZero : PartsState → Type 0
AreWordsZero p = (queue : Queue) (w : Word) → (shown_of p queue).word p.device.size w ≡ 0

-- One queue of both ends.
abbrev pub IsTiedAt : PartsState → Ends → Queue → Type 0
IsTiedAt p w queue = (out : List ℕ) × (back : List ℕ) × IsQueueTied queue p.device.size (start_of p queue) (shown_of p queue)
    (driver_at queue p)
    (turns_at queue p.device.turns) (heads_of queue p.device.held) (pages_at queue w.driver.staged) (queue_of queue w.lists) out back

-- Both ends: nobody else changes the memory, the lists lie in it, and what is under way is just what one end put and the other didn't get.
pub record AreTied (p : PartsState) (w : Ends) : Type 0 where
  pub still : IsStill p.device.memory
  pub laid : IsLaid p.device.size (areas_of p) (start_of p) p.device.memory
  pub there : (queue : Queue) → (driver_at queue p).pages_at ≡ Some (start_of p queue)
  pub sizes : (queue : Queue) → (driver_at queue p).n ≡ p.device.size
  pub size : w.lists.size ≡ p.device.size
  pub cid : w.lists.cid ≡ p.cid
  pub queues : (queue : Queue) → IsTiedAt p w queue
  pub held : AreHeldAs (start_of p) (shown_of p) p.device.held w.device.held
  pub logs : IsTied w.lists w.driver.entries w.device.entries

-- Where both ends are known, they are tied to the memory.
abbrev pub IsTiedTo : PartsState → Option Ends → Type 0
IsTiedTo p ends = IfSome ends (λ w. AreTied p w)
