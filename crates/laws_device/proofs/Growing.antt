-- The buffer space of a connection is raised: no packet passes, and no call is made.
use Rattle.std.proofs.Common.{arith}
use Rattle.std.proofs.lemmas.Grind.{common_steps}
use Rattle.std.proofs.Common.{Bool, false}
use Rattle.laws_walks.{specs.Named.Streams.HasStreams, proofs.{Named.Tables.{entry_by_slot, has_changed, value_by_entry}, Serving.by_slot}}
use Rattle.laws_streams.{specs.Streamed.ports_of, proofs.Changing.ends_streams}
use Rattle.laws_device.{specs.{Honest.IsWith, Streams.AreStreamedSince}, proofs.Carrying.{With, held_with, plain_with, ring_and_host, ring_only, with_ring, with_streams}}
use Rattle.laws_device.proofs.{Changing.grows, Steps.changed, Seats.Carried}
use Rattle.std.proofs.Common.{◌≡◌, ℕ, List, [], Some, None, refl}
use Rattle.vs_conn.specs.End.{grown}
use Rattle.vs_flow.specs.Table.{entry_under}
use Rattle.vs_outside.specs.Host.{HostContents}
use Rattle.vs_ring_port.specs.Contents.{RingContents}
use Rattle.vs_device_parts.specs.{Calls.Situation, Growing.{after_grow, entry_grow_answer, grow_of, grown_by}, State.{DeviceEntry, DeviceState}, Playing.situation}
use Rattle.vs_device_parts.{proofs.Growing.may_grow}
use Rattle.vs_proxy_parts.specs.State.{Handshake}
use Rattle.vs_device_parts.specs.declared.answers.Grown.TheVariants as rise

module _ (slot alloc : ℕ) (s : DeviceState) where
  -- What it keeps: what each raised connection keeps, and what the device as it is keeps.
  module _ (P : DeviceState → Type 0) (same : P s) where
    pub grow_by : ((e : DeviceEntry) → entry_under s.table slot ≡ Some e → entry_grow_answer alloc e ≡ rise.Done → P (grown_by rise.Done alloc e s))
        → P (after_grow slot alloc s)
    grow_by raised = grind (arith, common_steps)

  pub grown_same : (grow_of slot alloc s ≡ rise.Done → ⊥) → after_grow slot alloc s ≡ s
  grown_same = grow_by (λ t. (grow_of slot alloc s ≡ rise.Done → ⊥) → t ≡ s) (λ no. refl)
      (λ e found done no. absurd (no (rw (found, grow_of) done)))

  pub grow_keeps : (carry : Carried) (lines : List Handshake) (first port : ℕ) (c : Situation) → With carry lines first port s c
      → With carry lines first port (after_grow slot alloc s) c
  grow_keeps carry lines first port c holds =
      grow_by (λ t. With carry lines first port t c) holds (λ e found done.
      let is = by_slot s.table slot e found in
      changed carry lines first port s (grown_by rise.Done alloc e s) refl refl
      (λ fits. grows carry port s fits e is.among alloc (may_grow e.value.end alloc done))
      (λ fits h log x. ends_streams h log (ports_of carry.since port s) s.table lines x fits.sound e is.among (record e.value { end = grown e.value.end alloc })
      refl refl refl refl refl refl (λ on. on) (λ on. on)) c holds)

  pub grow_with : (first port : ℕ) (c : RingContents) → IsWith first port s c → IsWith first port (after_grow slot alloc s) c
  grow_with first port c holds =
      let a : Situation = situation c None 0 in
      with_ring false ⊥ [] first port (after_grow slot alloc s) a
      (grow_keeps ring_only [] first port a (plain_with first port s a holds))

  pub grow_streamed : (fresh : Bool) (first port : ℕ) (lines : List Handshake) (a : Situation) → IsWith first port s a.ring
      → AreStreamedSince fresh first port lines s a → AreStreamedSince fresh first port lines (after_grow slot alloc s) a
  grow_streamed fresh first port lines a holds streams =
      with_streams fresh (Unit {0}) lines first port (after_grow slot alloc s) a
      (grow_keeps (ring_and_host fresh) lines first port a (held_with fresh (Unit {0}) lines first port s a holds (λ ok. streams))) tt

  pub grow_streams : (others : List ℕ) (h : HostContents) → HasStreams others s.table h → HasStreams others (after_grow slot alloc s).table h
  grow_streams others h has =
      grow_by (λ t. HasStreams others t.table h) has (λ e found done.
      let is = entry_by_slot s.table slot e found in
      has_changed others s.table h has e (record e.value { end = grown e.value.end alloc }) is refl
      (λ closed. has.over e.slot e.value (value_by_entry s.table e is) closed))
