-- A ring in a guest's memory that is seen as a whole. What a device's calls are answered by tells nothing of bytes that no chain has. So
-- behind a call that no device makes, the return of a chain with more than there is room for, a read is answered by the parts of the
-- ring's state.
use Rattle.std.specs.Prelude.{ℕ, zero, suc, Bool, true, false, nat_le, if◌then◌else◌, List, [], ◌∷◌, Some, None}
use Rattle.vs_guest_mem.specs.Memory.{Change}
use Rattle.vs_layout.specs.declared.place.Areas.{Areas}
use Rattle.vs_ring_port.specs.{Contents.{RingContents, DeviceCall, DeviceAnswer, Read, Return}, declared.queue.Queue.{Queue, TheVariants.{Rx, Tx, Event}}}
use Rattle.vs_ring_plain.specs.{declared.{piece.Piece.Piece, turns.Turns.Turns}, Device.{DeviceState, HeldChain, answer_to}}

-- The parts as numbers.
abbrev pub number_of_bool : Bool → ℕ
number_of_bool false = 0
number_of_bool true = 1

abbrev pub number_of_queue : Queue → ℕ
number_of_queue Rx = 0
number_of_queue Tx = 1
number_of_queue Event = 2

abbrev pub with_areas : Areas → List ℕ → List ℕ
with_areas a ns = a.desc ∷ a.avail ∷ a.used ∷ a.end ∷ ns

abbrev pub with_turns : Turns → List ℕ → List ℕ
with_turns t ns = t.taken ∷ t.used ∷ ns

abbrev pub numbers : DeviceState → List ℕ
numbers d =
    d.size ∷ number_of_bool d.indirect ∷ d.memory.base ∷ d.memory.accesses ∷
    with_areas d.areas.rx (with_areas d.areas.tx (with_areas d.areas.event
    (with_turns d.turns.rx (with_turns d.turns.tx (with_turns d.turns.event [])))))

abbrev pub change_numbers : Change → List ℕ
change_numbers c = c.nth ∷ c.addr ∷ c.bytes

abbrev pub piece_numbers : List Piece → List ℕ
piece_numbers [] = []
piece_numbers (p ∷ ps) = p.addr ∷ p.len ∷ piece_numbers ps

abbrev pub hold_numbers : HeldChain → List ℕ
hold_numbers h =
    number_of_queue h.chain.queue ∷ h.chain.place ∷ h.chain.readable ∷ h.chain.writable ∷ h.head ∷ piece_numbers h.pieces

-- Those of one element of a list: none behind its end.
abbrev pub numbers_at : {X : Type 0} → (X → List ℕ) → ℕ → List X → List ℕ
numbers_at f i [] = []
numbers_at f zero (x ∷ xs) = f x
numbers_at f (suc i) (x ∷ xs) = numbers_at f i xs

-- A part of the state: the numbers, the bytes of the memory, a change to come, a chain held.
abbrev pub part : ℕ → ℕ → DeviceState → List ℕ
part zero i d = numbers d
part (suc zero) i d = d.memory.bytes
part (suc (suc zero)) i d = numbers_at change_numbers i d.memory.changes
part (suc (suc (suc n))) i d = numbers_at hold_numbers i d.held

-- A call that a device makes: it returns no more than a chain has room for.
abbrev pub is_made : DeviceCall → Bool
is_made (Return chain len) = nat_le len chain.writable
is_made _ = true

abbrev pub shown_by : (call : DeviceCall) → DeviceState → DeviceAnswer call
shown_by (Read chain place count) d = part place count d
shown_by call d = (answer_to call d).0

abbrev pub whole_state : DeviceState → List DeviceCall → (call : DeviceCall) → DeviceAnswer call
whole_state d [] call = (answer_to call d).0
whole_state d (made ∷ calls) call =
    if is_made made then whole_state (answer_to made d).1 calls call else shown_by call d

-- It exposes that, and nothing else.
abbrev pub whole_contents : DeviceState → RingContents
whole_contents d = record { lists = None; log = None; other = None; plain = Some (whole_state d); known = None; honest = false }
