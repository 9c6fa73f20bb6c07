-- A ring that is seen as a whole: its calls are those of the ring's port, and two that expose the same are the same.
use Rattle.std.proofs.lemmas.Grind.{common_steps}
use Rattle.std.proofs.{Common.{◌≡◌, ℕ, zero, suc, Bool, true, false, nat_le, List, [], ◌∷◌, None, unwrap_or, refl, sym, ap, ap₂, ◌∙◌, arith}, lemmas.Bool.false≢true}
use Rattle.std.{proofs.lemmas.Bool.Decides.nat_tests, specs.Prelude.{◌+◌, ◌≤◌}}
use Rattle.vs_guest_mem.specs.Memory.{Change}
use Rattle.vs_layout.specs.declared.place.Areas.{Areas}
use Rattle.vs_ring_port.specs.{Contents.{RingContents, DeviceCall, DeviceAnswer, PlainState, Take, Read, Write, Return, Given, PublishCid}, DeviceCalls.CanReturn}
use Rattle.vs_ring_port.specs.{DeviceCalls.{DeviceAllows, DeviceMoves}, declared.{queue.Queue.{TheVariants.{Rx, Tx, Event}, Queue}, device_ring.{Chain.Chain, Next.Next}}}
use Rattle.vs_ring_port.specs.{Chains.without, EndLog.EndLog, Lists.Rings}
use Rattle.vs_ring_plain.{specs.{Device.{DeviceState, HeldChain, answer_to, chains_held}, declared.{piece.Piece.Piece, turns.Turns.Turns}}, proofs.Calls.{Keeps, Takes, counts_by}}
use Rattle.vs_ring_plain.proofs.Calls.{reads_by, returns_by, takes_by, writes_by}
use Rattle.vs_hostile.specs.Whole.{change_numbers, hold_numbers, is_made, number_of_bool, number_of_queue, numbers, numbers_at, part, piece_numbers, whole_contents}
use Rattle.vs_hostile.specs.Whole.{whole_state}

moves : (call : DeviceCall) (answer : DeviceAnswer call) (P : Rings → Type 0) (f : Rings → Rings) (Q : EndLog → Type 0)
    (g : EndLog → EndLog) (old new : DeviceState) → is_made call ≡ true → answer_to call old ≡ (answer, new)
    → DeviceMoves call answer P f Q g (whole_contents old) (whole_contents new)
moves call answer P f Q g old new made is = grind (arith, common_steps)

pub allowed : (call : DeviceCall) (answer : DeviceAnswer call) (old new : DeviceState) → is_made call ≡ true → answer_to call old ≡ (answer, new)
    → DeviceAllows call answer (whole_contents old) (whole_contents new)
allowed (Take queue) answer old new made is = (None, moves (Take queue) answer _ _ _ _ old new made is)
allowed (Read chain place count) answer old new made is = moves (Read chain place count) answer _ _ _ _ old new made is
allowed (Write chain place bytes) answer old new made is = moves (Write chain place bytes) answer _ _ _ _ old new made is
allowed (Return chain len) answer old new made is = ([], moves (Return chain len) answer _ _ _ _ old new made is)
allowed (Given queue) answer old new made is = (0, moves (Given queue) answer _ _ _ _ old new made is)
allowed (PublishCid cid) answer old new made is = moves (PublishCid cid) answer _ _ _ _ old new made is

within : (n m : ℕ) → n ≤ m → nat_le n m ≡ true
within n m h = grind (arith, nat_tests)

pub allowed_return : (chain : Chain) (len : ℕ) (c : RingContents) (old new : DeviceState) → CanReturn chain len c
    → answer_to (Return chain len) old ≡ (tt, new) → DeviceAllows (Return chain len) tt (whole_contents old) (whole_contents new)
allowed_return chain len c old new can is = allowed (Return chain len) tt old new (within len chain.writable can.room) is

pub takes : (queue : Queue) (result : Next) (old new : DeviceState) → answer_to (Take queue) old ≡ (result, new) → Takes queue result old new
takes = takes_by

pub reads : (chain : Chain) (place count : ℕ) (bytes : List ℕ) (old new : DeviceState) → answer_to (Read chain place count) old ≡ (bytes, new)
    → Keeps old new
reads = reads_by

pub writes : (chain : Chain) (place : ℕ) (bytes : List ℕ) (old new : DeviceState) → answer_to (Write chain place bytes) old ≡ (tt, new)
    → Keeps old new
writes = writes_by

pub returns : (chain : Chain) (len : ℕ) (old new : DeviceState) → answer_to (Return chain len) old ≡ (tt, new)
    → (chains_held new ≡ without chain (chains_held old)) × (new.size ≡ old.size)
returns = returns_by

pub counts : (queue : Queue) (count : ℕ) (old new : DeviceState) → answer_to (Given queue) old ≡ (count, new) → Keeps old new
counts = counts_by

-- The parts make up the state.
abbrev bool_of : ℕ → Bool
bool_of zero = false
bool_of (suc n) = true

bool_again : (b : Bool) → bool_of (number_of_bool b) ≡ b
bool_again false = refl
bool_again true = refl

abbrev queue_of_number : ℕ → Queue
queue_of_number zero = Rx
queue_of_number (suc zero) = Tx
queue_of_number (suc (suc n)) = Event

queue_again : (q : Queue) → queue_of_number (number_of_queue q) ≡ q
queue_again Rx = refl
queue_again Tx = refl
queue_again Event = refl

abbrev nth : ℕ → List ℕ → ℕ
nth i [] = 0
nth zero (n ∷ ns) = n
nth (suc i) (n ∷ ns) = nth i ns

abbrev behind : ℕ → List ℕ → List ℕ
behind zero ns = ns
behind (suc i) [] = []
behind (suc i) (n ∷ ns) = behind i ns

abbrev change_of : List ℕ → Change
change_of ns = record { nth = nth 0 ns; addr = nth 1 ns; bytes = behind 2 ns }

abbrev pieces_of_numbers : List ℕ → List Piece
pieces_of_numbers [] = []
pieces_of_numbers (a ∷ []) = []
pieces_of_numbers (a ∷ l ∷ ns) = record { addr = a; len = l } ∷ pieces_of_numbers ns

pieces_again : (ps : List Piece) → pieces_of_numbers (piece_numbers ps) ≡ ps
pieces_again [] = refl
pieces_again (p ∷ ps) = ap (λ (qs : List Piece). p ∷ qs) (pieces_again ps)

abbrev hold_of_numbers : List ℕ → HeldChain
hold_of_numbers ns = record {
  chain = record { queue = queue_of_number (nth 0 ns); place = nth 1 ns; readable = nth 2 ns; writable = nth 3 ns };
  head = nth 4 ns;
  pieces = pieces_of_numbers (behind 5 ns);
}

change_again : (c : Change) → change_of (change_numbers c) ≡ c
change_again c = refl

hold_again : (h : HeldChain) → hold_of_numbers (hold_numbers h) ≡ h
hold_again h =
    let Q : Queue → HeldChain = λ q. record h { chain = record h.chain { queue = q }; pieces = pieces_of_numbers (piece_numbers h.pieces) } in
    let P : List Piece → HeldChain = λ ps. record h { pieces = ps } in
    ap Q (queue_again h.chain.queue) ∙ ap P (pieces_again h.pieces)

abbrev is_some_list : List ℕ → Bool
is_some_list [] = false
is_some_list (n ∷ ns) = true

module _ {X : Type 0} (f : X → List ℕ) (g : List ℕ → X) (again : (x : X) → g (f x) ≡ x) (some : (x : X) → is_some_list (f x) ≡ true) where
  same_lists : (xs ys : List X) → ((i : ℕ) → numbers_at f i xs ≡ numbers_at f i ys) → xs ≡ ys
  same_lists [] [] same = refl
  same_lists [] (y ∷ ys) same = absurd (false≢true (ap is_some_list (same 0) ∙ some y))
  same_lists (x ∷ xs) [] same = absurd (false≢true (sym (ap is_some_list (same 0)) ∙ some x))
  same_lists (x ∷ xs) (y ∷ ys) same =
      ap₂ (λ (z : X) (zs : List X). z ∷ zs) (sym (again x) ∙ ap g (same 0) ∙ again y) (same_lists xs ys (λ i. same (suc i)))

abbrev areas_from : ℕ → List ℕ → Areas
areas_from i ns = record { desc = nth i ns; avail = nth (i + 1) ns; used = nth (i + 2) ns; end = nth (i + 3) ns }

abbrev turns_from : ℕ → List ℕ → Turns
turns_from i ns = record { taken = nth i ns; used = nth (i + 1) ns }

abbrev state_of : List ℕ → List ℕ → List Change → List HeldChain → DeviceState
state_of ns bytes changes held = record {
  memory = record { base = nth 2 ns; bytes = bytes; accesses = nth 3 ns; changes = changes };
  size = nth 0 ns;
  areas = record { rx = areas_from 4 ns; tx = areas_from 8 ns; event = areas_from 12 ns };
  indirect = bool_of (nth 1 ns);
  turns = record { rx = turns_from 16 ns; tx = turns_from 18 ns; event = turns_from 20 ns };
  held = held;
}

state_again : (d : DeviceState) → state_of (numbers d) d.memory.bytes d.memory.changes d.held ≡ d
state_again d = ap (λ (b : Bool). record d { indirect = b }) (bool_again d.indirect)

same_states : (d e : DeviceState) → ((n i : ℕ) → part n i d ≡ part n i e) → d ≡ e
same_states d e same =
    let changes : d.memory.changes ≡ e.memory.changes =
    same_lists change_numbers change_of change_again (λ c. refl) d.memory.changes e.memory.changes (λ i. same 2 i) in
    let held : d.held ≡ e.held = same_lists hold_numbers hold_of_numbers hold_again (λ h. refl) d.held e.held (λ i. same 3 i) in
    let ns : numbers d ≡ numbers e = same 0 0 in
    let bytes : d.memory.bytes ≡ e.memory.bytes = same 1 0 in
    sym (state_again d)
    ∙ (ap (λ (x : List ℕ). state_of x d.memory.bytes d.memory.changes d.held) ns
    ∙ (ap (λ (x : List ℕ). state_of (numbers e) x d.memory.changes d.held) bytes
    ∙ (ap (λ (x : List Change). state_of (numbers e) e.memory.bytes x d.held) changes
    ∙ (ap (λ (x : List HeldChain). state_of (numbers e) e.memory.bytes e.memory.changes x) held
    ∙ state_again e))))

abbrev no_room : Chain
no_room = record { queue = Rx; place = 0; readable = 0; writable = 0 }

pub exposed : (d e : DeviceState) → whole_contents d ≡ whole_contents e → d ≡ e
exposed d e same =
    let states : whole_state d ≡ whole_state e = ap (λ (c : RingContents). unwrap_or c.plain (whole_state d)) same in
    same_states d e (λ n i. ap (λ (s : PlainState). s (Return no_room 1 ∷ []) (Read no_room n i)) states)
