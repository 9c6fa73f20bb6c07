-- The device's end of the three queues in a guest's memory, as a plain value: each call's answer and what is left are functions of it
-- (Virtio 1.2, section 2.7).
use Rattle.std.specs.Prelude.{◌≡◌, ℕ, ◌+◌, ◌%◌, ◌^◌, Bool, false, List, [], ◌∷◌, ◌++◌, length, map, Option, None, Some, if◌then◌else◌, ◌&&◌, ◌||◌, ◌==◌, not, nat_le, nat_lt}
use Rattle.std.specs.Prelude.{count_by}
use Rattle.vs_guest_mem.specs.Memory.{Change, Memory, after_write}
use Rattle.vs_layout.specs.{declared.{place.Areas.Areas, placement.QueueAreas.QueueAreas}, Layout.{avail_event, used_flags, used_idx}}
use Rattle.vs_ring_port.specs.{Chains.{same_chain, same_queue}, declared.{device_ring.{Chain.Chain, Next.Next}, queue.Queue.{Queue, TheVariants.{Rx, Tx, Event}}}}
use Rattle.vs_ring_port.specs.Contents.{RingContents, PlainState, DeviceCall, DeviceAnswer, Take, Read, Write, Return, Given, PublishCid}
use Rattle.vs_ring_plain.specs.{declared.{piece.Piece.Piece, turns.{Turns.Turns, QueueTurns.QueueTurns}}, Accesses.{Accesses, over}, Pieces.{given, reading, returning, spans}}
use Rattle.vs_ring_plain.specs.{Pieces.writing, Chain.{Ring, Taken, NoChain, Failed, taking, total_len, Chain as Found}}
use Rattle.vs_ring_port.specs.declared.device_ring.Next.TheVariants as next

-- A chain that the device holds, the number of its first descriptor, and its pieces.
pub record HeldChain : Type 0 where
  pub chain : Chain
  pub head : ℕ
  pub pieces : List Piece

-- The memory, the size and the areas of the queues, whether indirect descriptors were agreed on, how many chains of each queue were
-- taken and returned, and the chains held, newest first.
pub record DeviceState : Type 0 where
  pub memory : Memory
  pub size : ℕ
  pub areas : QueueAreas
  pub indirect : Bool
  pub turns : QueueTurns
  pub held : List HeldChain

abbrev pub areas_at : Queue → QueueAreas → Areas
areas_at Rx a = a.rx
areas_at Tx a = a.tx
areas_at Event a = a.event

abbrev pub turns_at : Queue → QueueTurns → Turns
turns_at Rx t = t.rx
turns_at Tx t = t.tx
turns_at Event t = t.event

abbrev pub with_turns : Queue → Turns → QueueTurns → QueueTurns
with_turns Rx t all = record all { rx = t }
with_turns Tx t all = record all { tx = t }
with_turns Event t all = record all { event = t }

-- One more chain of a queue is taken, and one more is returned; both run modulo 2^16.
abbrev pub one_taken : Queue → QueueTurns → QueueTurns
one_taken queue all = let t = turns_at queue all in with_turns queue (record t { taken = (t.taken + 1) % 2 ^ 16 }) all

abbrev pub one_returned : Queue → QueueTurns → QueueTurns
one_returned queue all = let t = turns_at queue all in with_turns queue (record t { used = (t.used + 1) % 2 ^ 16 }) all

-- A queue of the device.
abbrev pub ring_at : Queue → DeviceState → Ring
ring_at queue d = record {
  queue = queue;
  n = d.size;
  areas = areas_at queue d.areas;
  base = d.memory.base;
  size = length d.memory.bytes;
  indirect = d.indirect;
}

-- The device with another memory.
abbrev pub with_memory : DeviceState → Memory → DeviceState
with_memory d m = record d { memory = m }

-- The queues and the memory lie where they did.
pub record SamePlace (old new : DeviceState) : Type 0 where
  pub base : new.memory.base ≡ old.memory.base
  pub bytes : length new.memory.bytes ≡ length old.memory.bytes
  pub same_size : new.size ≡ old.size
  pub same_areas : new.areas ≡ old.areas

-- The memory in which the device returned nothing to a queue of n places and wants to be told of each page: flags, index and avail_event
-- of the used ring are 0.
abbrev pub cleared_used : Areas → ℕ → Memory → Memory
cleared_used a n m =
    let flags = after_write m (used_flags a).at (0 ∷ 0 ∷ []) in
    let index = after_write flags (used_idx a).at (0 ∷ 0 ∷ []) in
    after_write index (avail_event a n).at (0 ∷ 0 ∷ [])

-- The memory with one more change to come.
abbrev pub with_change : Memory → Change → Memory
with_change m change = record m { changes = m.changes ++ change ∷ [] }

-- The chain of pieces: the device reads tx and writes rx and event.
abbrev pub readable_in : Queue → List Piece → ℕ
readable_in Tx pieces = total_len pieces
readable_in _ pieces = 0

abbrev pub writable_in : Queue → List Piece → ℕ
writable_in Tx pieces = 0
writable_in _ pieces = total_len pieces

abbrev pub chain_at : Queue → ℕ → List Piece → Chain
chain_at queue place pieces = record {
  queue = queue;
  place = place;
  readable = readable_in queue pieces;
  writable = writable_in queue pieces;
}

-- What comes of taking, where so many chains were taken before: a chain is held from now on.
abbrev pub answer_taken : Queue → Taken → DeviceState → Next × DeviceState
answer_taken queue NoChain d = (next.None, d)
answer_taken queue (Found head pieces) d =
    let chain = chain_at queue ((turns_at queue d.turns).taken % d.size) pieces in
    let hold : HeldChain = record { chain = chain; head = head; pieces = pieces } in
    (next.Chain chain, record d { turns = one_taken queue d.turns; held = hold ∷ d.held })
answer_taken queue (Failed failure) d = (next.Failed failure, d)

-- No further chain of a queue of n places is taken for now: n of them are held, or one that has several pieces.
abbrev pub is_busy : Queue → ℕ → List HeldChain → Bool
is_busy queue n held =
    nat_le n (count_by (λ (h : HeldChain). same_queue queue h.chain.queue) held)
    || nat_lt 0 (count_by (λ (h : HeldChain). same_queue queue h.chain.queue && not (length h.pieces == 1)) held)

-- The next chain of a queue, with the accesses that find it. Where none is taken for now, no access is made.
abbrev pub answer_found : Queue → DeviceState → Next × DeviceState
answer_found queue d =
    let found = over (taking (ring_at queue d) (turns_at queue d.turns).taken) d.memory in answer_taken queue found.0 (with_memory d found.1)

abbrev pub answer_next : Queue → DeviceState → Next × DeviceState
answer_next queue d = if is_busy queue d.size d.held then (next.None, d) else answer_found queue d

-- The hold of that very chain.
abbrev pub hold_of : Chain → List HeldChain → Option HeldChain
hold_of chain [] = None
hold_of chain (h ∷ held) = if same_chain chain h.chain then Some h else hold_of chain held

abbrev pub pieces_of : Option HeldChain → List Piece
pieces_of None = []
pieces_of (Some h) = h.pieces

abbrev pub head_of : Option HeldChain → ℕ
head_of None = 0
head_of (Some h) = h.head

abbrev pub without_hold : Chain → List HeldChain → List HeldChain
without_hold chain [] = []
without_hold chain (h ∷ held) = if same_chain chain h.chain then held else h ∷ without_hold chain held

abbrev pub chains_held : DeviceState → List Chain
chains_held d = map (λ h. h.chain) d.held

-- The accesses of a call over the device's memory.
abbrev pub after_accesses : {A : Type 0} → Accesses A → DeviceState → A × DeviceState
after_accesses accesses d = let r = over accesses d.memory in (r.0, with_memory d r.1)

-- Each call's answer, and the device after it. A read or write makes one access for each piece that it touches; a return stores the
-- used element, then the used index. The CID isn't in the memory.
abbrev pub answer_to : (call : DeviceCall) → DeviceState → DeviceAnswer call × DeviceState
answer_to (Take queue) d = answer_next queue d
answer_to (Read chain place count) d = after_accesses (reading (spans (pieces_of (hold_of chain d.held)) place count) []) d
answer_to (Write chain place bytes) d =
    after_accesses (writing (spans (pieces_of (hold_of chain d.held)) place (length bytes)) bytes) d
answer_to (Return chain len) d =
    let returned = (turns_at chain.queue d.turns).used in
    let stored = after_accesses (returning (ring_at chain.queue d) returned (head_of (hold_of chain d.held)) len) d in
    (tt, record stored.1 { turns = one_returned chain.queue d.turns; held = without_hold chain d.held })
answer_to (Given queue) d = after_accesses (given (ring_at queue d) (turns_at queue d.turns).used) d
answer_to (PublishCid cid) d = (tt, d)

-- The device after some calls, oldest first, and its plain state: what each call is answered by after each list of calls.
abbrev pub after_calls : List DeviceCall → DeviceState → DeviceState
after_calls [] d = d
after_calls (call ∷ calls) d = after_calls calls (answer_to call d).1

abbrev pub plain_state : DeviceState → PlainState
plain_state d = λ calls call. (answer_to call (after_calls calls d)).0

-- It exposes its plain state, and nothing else: whatever lies in the memory, nobody vouches for it.
abbrev pub contents_of : DeviceState → RingContents
contents_of d = record { lists = None; log = None; other = None; plain = Some (plain_state d); known = None; honest = false }

-- A device that took nothing yet.
abbrev pub new_device : Memory → ℕ → QueueAreas → Bool → DeviceState
new_device memory n areas indirect =
    let none : Turns = record { taken = 0; used = 0 } in
    record { memory = memory; size = n; areas = areas; indirect = indirect; turns = record { rx = none; tx = none; event = none }; held = [] }
