-- What one packet does to the log: the packet that is put, the one that is taken, and an event.
use Rattle.std.proofs.Common.{arith}
use Rattle.std.proofs.lemmas.Grind.{common_steps}
use Rattle.std.proofs.Common.{◌≡◌, ℕ, ◌+◌, Bool, true, List, [], ◌∷◌, ◌++◌, length, take, drop, Option, Some, Result, refl, sym, ap, subst, ◌∙◌}
use Rattle.std.{proofs.lemmas.List.append-nil, specs.Option.{ForSome}}
use Rattle.vs_contents.specs.Contents.{Relates}
use Rattle.vs_header.specs.{Packet.{header_bytes, header_of}, declared.{Header.Header, TheConstants.HEADER_LEN}}
use Rattle.laws_history.specs.{Packets.is_rw, declared.packet.Packet.Packet}
use Rattle.vs_page.specs.{Held.{packet_held}, Overwriting.overwritten, declared.log.LogEntry.TheVariants.{PutEvent, PutPacket}}
use Rattle.vs_ring_port.specs.{Chains.{Held}, DeviceCalls.{DeviceMoves}, Lists.Rings, declared.{device_ring.Chain.Chain, failure.Failure.Failure}}
use Rattle.vs_ring_port.specs.{declared.queue.Queue.TheVariants.{Event, Rx, Tx}, Contents.{DeviceAnswer, DeviceCall, Read, Return, RingContents, Take, Write}, EndLog.EndLog}
use Rattle.vs_ring_port.specs.EndLog.{log_returned, with_packet}
use Rattle.vs_device_parts.specs.{Calls.{Allows, Ring, Situation}, Playing.Runs, Receiving.{event_on, written}, State.DeviceState}
use Rattle.laws_device.{specs.Packets.{HasAdded, HasTaken, HoldsLast, IsWholeAs, packet_with}, proofs.{Chains.{both_written, first_written}}}
use Rattle.laws_device.proofs.{Ringing.{returned_entries, returned_held, written_held}}
use Rattle.vs_ring_port.specs.declared.device_ring.Next.TheVariants as next

-- What a call does to the log, between the logs before and after it.
pub related : (call : DeviceCall) (a : DeviceAnswer call) (L : Rings → Type 0) (f : Rings → Rings) (R : EndLog → Type 0) (g : EndLog → EndLog)
    (c d : RingContents)
    → DeviceMoves call a L f R g c d → (Q : EndLog → EndLog → Type 0) → ((l : EndLog) → c.log ≡ Some l → R l → Q l (g l))
    → Relates c.log d.log Q
related call a L f R g c d made Q each = grind (arith, common_steps)

pub joined : {X : Type 0} (o p q : Option X) (R S T : X → X → Type 0) → ((l m n : X) → R l m → S m n → T l n) → Relates o p R
    → Relates p q S → Relates o q T
joined {X = X} o p q R S T both first second = grind (arith, common_steps)

-- Bytes of the chain that was taken last, with the log's entries as they were.
record Wrote (chain : Chain) (bytes : List ℕ) (others : List Held) (old new : EndLog) : Type 0 where
  entries : new.entries ≡ old.entries
  held : HoldsLast chain bytes others new

module _ (chain : Chain) (others : List Held) where
  writes : (bytes more : List ℕ) (place : ℕ) (a b : Situation) → ForSome a.ring.log (HoldsLast chain bytes others)
      → Allows (Ring (Write chain place more)) tt a b → Relates a.ring.log b.ring.log (Wrote chain (overwritten bytes place more) others)
  writes bytes more place a b first allowed = grind (arith, common_steps, written_held)

  -- What follows in the next situation.
  told : (bytes : List ℕ) (o p : Option EndLog) → Relates o p (Wrote chain bytes others) → ForSome p (HoldsLast chain bytes others)
  told bytes o p wrote = grind (arith, common_steps)

  again : (bytes more : List ℕ) (o p q : Option EndLog) → Relates o p (Wrote chain bytes others) → Relates p q (Wrote chain more others)
      → Relates o q (Wrote chain more others)
  again bytes more o p q = joined o p q (Wrote chain bytes others) (Wrote chain more others) (Wrote chain more others)
      (λ l m n first second. record { entries = second.entries ∙ first.entries; held = second.held })

  module _ (rx : chain.queue ≡ Rx) (h : Header) (payload : List ℕ) (whole : IsWholeAs h payload) where
    returns : (bytes : List ℕ) (len : ℕ) (a b : Situation) → take len bytes ≡ header_bytes h ++ payload → ForSome a.ring.log
        (HoldsLast chain bytes others)
        → Allows (Ring (Return chain len)) tt a b → Relates a.ring.log b.ring.log (HasAdded (PutPacket (packet_with h payload)) others)
    returns bytes len a b page first allowed =
        related _ _ _ _ _ (log_returned chain len) a.ring b.ring allowed.0.1 (HasAdded (PutPacket (packet_with h payload)) others)
        (λ l is asked. record {
          entries = returned_entries chain Rx bytes len others l rx (first l is)
              ∙ ap (λ (x : List ℕ). with_packet (λ q. PutPacket q) (packet_held x) l.entries) page
              ∙ ap (λ (o : Option Packet). with_packet (λ q. PutPacket q) o l.entries) whole;
          held = returned_held chain bytes len others l (first l is);
        })

    last : (bytes : List ℕ) (o p q : Option EndLog) → Relates o p (Wrote chain bytes others) → Relates p q
        (HasAdded (PutPacket (packet_with h payload)) others)
        → Relates o q (HasAdded (PutPacket (packet_with h payload)) others)
    last bytes o p q = grind (arith, common_steps)

pub puts_one : (chain : Chain) (others : List Held) (h : Header) (payload : List ℕ) (a b : Situation) → chain.queue ≡ Rx
    → IsWholeAs h payload
    → ForSome a.ring.log (HoldsLast chain [] others) → Runs (written chain h payload) a tt b
    → Relates a.ring.log b.ring.log (HasAdded (PutPacket (packet_with h payload)) others)
puts_one chain others h [] a b rx whole first (x, c, one, (y, d, two, (done, end))) =
    let one_is = writes chain others [] (header_bytes h) 0 a c first one in
    let bytes : List ℕ = overwritten [] 0 (header_bytes h) in
    let two_is = returns chain others rx h [] whole bytes HEADER_LEN c d
    (first_written [] (header_bytes h) HEADER_LEN refl ∙ sym (append-nil (header_bytes h)))
    (told chain others bytes a.ring.log c.ring.log one_is) two in
    subst (λ (s : Situation). Relates a.ring.log s.ring.log (HasAdded (PutPacket (packet_with h [])) others)) end
    (last chain others rx h [] whole bytes a.ring.log c.ring.log d.ring.log one_is two_is)
puts_one chain others h (z ∷ zs) a b rx whole first (x, c, one, (y, d, two, (w, e, three, (done, end)))) =
    let bytes : List ℕ = overwritten [] 0 (header_bytes h) in
    let all : List ℕ = overwritten bytes HEADER_LEN (z ∷ zs) in
    let one_is = writes chain others [] (header_bytes h) 0 a c first one in
    let two_is = writes chain others bytes (z ∷ zs) HEADER_LEN c d (told chain others bytes a.ring.log c.ring.log one_is) two in
    let both_is = again chain others bytes all a.ring.log c.ring.log d.ring.log one_is two_is in
    let three_is = returns chain others rx h (z ∷ zs) whole all (HEADER_LEN + length (z ∷ zs)) d e
    (both_written bytes (header_bytes h) (z ∷ zs) HEADER_LEN (first_written [] (header_bytes h) HEADER_LEN refl) refl)
    (told chain others all c.ring.log d.ring.log two_is) three in
    subst (λ (s : Situation). Relates a.ring.log s.ring.log (HasAdded (PutPacket (packet_with h (z ∷ zs))) others)) end
    (last chain others rx h (z ∷ zs) whole all a.ring.log d.ring.log e.ring.log both_is three_is)

-- A chain of tx that is taken, and what is read of it.
pub takes_one : (chain : Chain) (a b : Situation) → Allows (Ring (Take Tx)) (next.Chain chain) a b → Relates a.ring.log b.ring.log
    (HasTaken chain)
takes_one chain a b allowed = grind (arith, common_steps)

pub reads_there : (chain : Chain) (page bytes : List ℕ) (others : List Held) (place count : ℕ) (a b : Situation)
    → Allows (Ring (Read chain place count)) bytes a b → (l : EndLog) → a.ring.log ≡ Some l → HoldsLast chain page others l
    → bytes ≡ take count (drop place page)
reads_there chain page bytes others place count a b allowed l is first = grind (arith, common_steps)

-- The packet that a page holds: its header is the page's, and so is the payload of an RW.
pub heard_there : (page : List ℕ) (p : Packet) → packet_held page ≡ Some p
    → (p.header ≡ header_of (take HEADER_LEN page)) × (is_rw p ≡ true → p.payload ≡ take p.header.len (drop HEADER_LEN page))
heard_there page p held = grind (arith, common_steps)

-- An event.
module _ (chain : Chain) (others : List Held) (event : chain.queue ≡ Event) where
  pub puts_event : (s : DeviceState) (x : DeviceState × Result Bool Failure) (a b : Situation) → ForSome a.ring.log
      (HoldsLast chain [] others)
      → Runs (event_on (next.Chain chain) s) a x b → Relates a.ring.log b.ring.log (HasAdded (PutEvent 0) others)
  puts_event s x a b first h = grind (arith, common_steps)
