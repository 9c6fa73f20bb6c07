-- Over any ring a conversation leaves it as honest as it was and its log fair, and adds to the log that it tells.
use Rattle.std.proofs.Common.{arith}
use Rattle.std.proofs.lemmas.Grind.{common_steps}
use Rattle.std.{proofs.Common.{◌≡◌, ℕ, true, List, [], ◌∷◌, take, Option, Some, None, refl, subst, ◌∙◌}, specs.Option.ForSome}
use Rattle.vs_contents.specs.{CallTree.{Ask, Done}, Contents.Relates}
use Rattle.laws_history.specs.declared.packet.Packet.{Packet}
use Rattle.vs_page.specs.{Held.{event_held, packet_held}, Log.{Device, Log}, declared.log.LogEntry.{LogEntry, TheVariants.{GotPacket, Mark, PutEvent, PutPacket}}}
use Rattle.vs_ring_port.specs.{Chains.bytes_in, DeviceCalls.{DeviceAllows, DeviceMoves}, Lists.Rings, declared.{device_ring.Next.Next, queue.Queue.{Queue, TheVariants.Event}}}
use Rattle.vs_ring_port.specs.{declared.queue.Queue.TheVariants.{Rx, Tx}, Contents.{DeviceAnswer, DeviceCall, Given, IsSound, PublishCid, Read, Return, RingContents, Take, Write}}
use Rattle.vs_ring_port.specs.EndLog.{EndLog, entries_returned, log_reset, log_returned, log_taken, log_written, with_event, with_packet}
use Rattle.vs_device_parts.specs.{Calls.{Allows, Answer, Call, DeviceTree, Situation}, Playing.Runs}
use Rattle.laws_tables.{specs.Later.{IsLater, StaysShut}, proofs.Later.{later_then, stays_shut}}
use Rattle.laws_device.proofs.Packets.{joined, related}
use Rattle.vs_ring_port.specs.declared.device_ring.Next.TheVariants as next

-- A relation of a ring before and after, which each call on it keeps, over any conversation.
module _ (R : RingContents → RingContents → Type 0) (same : (c : RingContents) → R c c)
    (both : (c d e : RingContents) → R c d → R d e → R c e)
    (each : (call : DeviceCall) (a : DeviceAnswer call) (c d : RingContents) → DeviceAllows call a c d → R c d) where
  by_call : (call : Call) (a : Answer call) (c d : Situation) → Allows call a c d → R c.ring d.ring
  by_call call a c d allowed = grind (arith, common_steps)

  pub over_runs : {A : Type 0} (tree : DeviceTree A) (c d : Situation) (x : A) → Runs tree c x d → R c.ring d.ring
  over_runs (Done y) c d x runs = subst (λ (s : Situation). R c.ring s.ring) runs.1 (same c.ring)
  over_runs (Ask call go) c d x runs =
      both c.ring runs.1.ring d.ring (by_call call runs.0 c runs.1 runs.2) (over_runs (go runs.0) runs.1 d x runs.3)

-- What each call adds to the log.
packet_later : (entry : Packet → LogEntry) (o : Option Packet) (log : Log) → IsLater log (with_packet entry o log)
packet_later entry None log = ([], refl)
packet_later entry (Some p) log = (entry p ∷ [], refl)

event_later : (o : Option ℕ) (log : Log) → IsLater log (with_event (λ id. PutEvent id) o log)
event_later None log = ([], refl)
event_later (Some id) log = (PutEvent id ∷ [], refl)

taken_later : (queue : Queue) (given : Next) (page : Option (List ℕ)) (l : EndLog) → IsLater l.entries (log_taken queue given page l).entries
taken_later Tx (next.Chain chain) (Some page) l = packet_later (λ p. GotPacket p) (packet_held page) l.entries
taken_later queue (next.Chain chain) (Some page) l = ([], refl)
taken_later queue given page l = ([], refl)

returned_later : (queue : Queue) (page : List ℕ) (log : Log) → IsLater log (entries_returned queue page log)
returned_later Rx page log = packet_later (λ p. PutPacket p) (packet_held page) log
returned_later Event page log = event_later (event_held page) log
returned_later Tx page log = ([], refl)

abbrev pub Later : EndLog → EndLog → Type 0
Later l m = IsLater l.entries m.entries

abbrev pub GoesOn : RingContents → RingContents → Type 0
GoesOn c d = (d.honest ≡ c.honest) × (IsSound Device c → IsSound Device d) × Relates c.log d.log Later

moved : (call : DeviceCall) (a : DeviceAnswer call) (L : Rings → Type 0) (f : Rings → Rings) (Q : EndLog → Type 0) (g : EndLog → EndLog)
    (c d : RingContents) → DeviceMoves call a L f Q g c d → ((l : EndLog) → IsLater l.entries (g l).entries) → GoesOn c d
moved call a L f Q g c d made later = (made.honest, λ was. made.fair, related call a L f Q g c d made Later (λ l is asked. later l))

ring_goes : (call : DeviceCall) (a : DeviceAnswer call) (c d : RingContents) → DeviceAllows call a c d → GoesOn c d
ring_goes (Take queue) a c d allowed = moved _ _ _ _ _ (log_taken queue a allowed.0) c d allowed.1 (taken_later queue a allowed.0)
ring_goes (Read chain place count) a c d allowed = moved _ _ _ _ _ (λ l. l) c d allowed (λ l. ([], refl))
ring_goes (Write chain place bytes) a c d allowed = moved _ _ _ _ _ (log_written chain place bytes) c d allowed (λ l. ([], refl))
ring_goes (Return chain len) a c d allowed =
    moved _ _ _ _ _ (log_returned chain len) c d allowed.1 (λ l. returned_later chain.queue (take len (bytes_in chain l.held)) l.entries)
ring_goes (Given queue) a c d allowed = moved _ _ _ _ _ (λ l. l) c d allowed.1 (λ l. ([], refl))
ring_goes (PublishCid cid) a c d allowed = moved _ _ _ _ _ (log_reset cid) c d allowed (λ l. (Mark cid ∷ [], refl))

pub goes_on : {A : Type 0} (tree : DeviceTree A) (c d : Situation) (x : A) → Runs tree c x d → GoesOn c.ring d.ring
goes_on = over_runs GoesOn (λ c. (refl, λ sound. sound, as_told c.log)) (λ c d e first rest. (
  rest.0 ∙ first.0,
  λ sound. rest.1 (first.1 sound),
  joined c.log d.log e.log Later Later Later (λ l m n. later_then l.entries m.entries n.entries) first.2 rest.2,
)) ring_goes
  where
    as_told : (o : Option EndLog) → Relates o o Later
    as_told None = refl
    as_told (Some l) = ([], refl)

-- Nothing more is put on a connection after the SHUTDOWN that says 'no more is sent'.
pub shut_still : {A : Type 0} (tree : DeviceTree A) (c d : Situation) (x : A) → IsSound Device c.ring → Runs tree c x d → c.ring.honest ≡ true
    → ForSome c.ring.log (λ l. ForSome d.ring.log (λ m. StaysShut Device l.entries m.entries))
shut_still tree c d x sound runs = λ on l is m told. let went = goes_on tree c d x runs in
    stays_shut Device l.entries m.entries (between c.ring.log d.ring.log l m is told went.2) (went.1 sound (went.0 ∙ on) m told)
  where
    between : (o p : Option EndLog) (l m : EndLog) → o ≡ Some l → p ≡ Some m → Relates o p Later → Later l m
    between o p l m is told later =
        let P : Option EndLog → Type 0 = λ q. Relates q p Later in
        let Q : Option EndLog → Type 0 = λ q. Relates (Some l) q Later in
        subst Q told (subst P is later)
