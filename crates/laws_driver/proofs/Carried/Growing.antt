-- Over any ring a conversation leaves it as honest as it was and its log fair, and adds to the log that it tells.
use Rattle.std.{proofs.{Common.{◌≡◌, ℕ, true, Option, Some, None, List, [], ◌∷◌, refl, subst, ◌∙◌, arith}, lemmas.Grind.common_steps}, specs.Option.ForSome}
use Rattle.vs_contents.specs.CallTree.{Ask, Done}
use Rattle.laws_history.specs.declared.packet.Packet.{Packet}
use Rattle.vs_page.specs.{Held.{event_held, packet_held}, Log.{Driver, Log}, declared.log.LogEntry.{LogEntry, TheVariants.{GotEvent, GotPacket, Mark, PutPacket}}}
use Rattle.vs_ring_port.specs.{Contents.{IsSound, RingContents}, DriverCalls.{DriverAnswer, DriverCall, DriverMoves}, EndLog.{EndLog, all_put}}
use Rattle.vs_ring_port.specs.EndLog.{entries_marked, entries_published, entries_reaped, with_event, with_packet}
use Rattle.vs_ring_port.specs.{Lists.Rings, declared.queue.Queue.{Queue, TheVariants.{Event, Rx, Tx}}}
use Rattle.vs_driver_parts.specs.{Conversations.DriverTree, Playing.{Plays, RingAllows}}
use Rattle.laws_tables.{specs.Later.{IsLater, StaysShut}, proofs.Later.{later_then, stays_shut}}
use Rattle.laws_driver.specs.Carried.Sent.{TellsMore}

-- Entries that come behind others.
packet_later : (entry : Packet → LogEntry) (o : Option Packet) (log : Log) → IsLater log (with_packet entry o log)
packet_later entry None log = ([], refl)
packet_later entry (Some p) log = (entry p ∷ [], refl)

event_later : (o : Option ℕ) (log : Log) → IsLater log (with_event (λ id. GotEvent id) o log)
event_later None log = ([], refl)
event_later (Some id) log = (GotEvent id ∷ [], refl)

put_later : (pages : List (List ℕ)) (log : Log) → IsLater log (all_put pages log)
put_later [] log = ([], refl)
put_later (page ∷ pages) log =
    later_then log (with_packet (λ p. PutPacket p) (packet_held page) log) (all_put (page ∷ pages) log)
    (packet_later (λ p. PutPacket p) (packet_held page) log) (put_later pages (with_packet (λ p. PutPacket p) (packet_held page) log))

published_later : (queue : Queue) (pages : List (List ℕ)) (log : Log) → IsLater log (entries_published queue pages log)
published_later Tx pages log = put_later pages log
published_later Rx pages log = ([], refl)
published_later Event pages log = ([], refl)

reaped_later : (queue : Queue) (page : Option (List ℕ)) (log : Log) → IsLater log (entries_reaped queue page log)
reaped_later queue None log = ([], refl)
reaped_later Rx (Some page) log = packet_later (λ p. GotPacket p) (packet_held page) log
reaped_later Event (Some page) log = event_later (event_held page) log
reaped_later Tx (Some page) log = ([], refl)

marked_later : (cid : ℕ) (log : Log) → IsLater log (entries_marked cid log)
marked_later cid [] = ([], refl)
marked_later cid (entry ∷ log) = (Mark cid ∷ [], refl)

-- What a conversation leaves of a ring.
abbrev pub GoesOn : RingContents → RingContents → Type 0
GoesOn c d = (d.honest ≡ c.honest) × (IsSound Driver c → IsSound Driver d) × TellsMore c.log d.log

moved : (call : DriverCall) (a : DriverAnswer call) (L : Rings → Type 0) (f : Rings → Rings) (Q : EndLog → Type 0) (g : EndLog → EndLog)
    (c d : RingContents) → DriverMoves call a L f Q g c d → ((l : EndLog) → IsLater l.entries (g l).entries) → GoesOn c d
moved call a L f Q g c d made later = grind (arith, common_steps)

one_goes : (call : DriverCall) (a : DriverAnswer call) (c d : RingContents) → RingAllows call a c d → GoesOn c d
one_goes call a c d allowed = grind (arith, common_steps, moved, published_later, reaped_later, marked_later)

more_then : (a b c : Option EndLog) → TellsMore a b → TellsMore b c → TellsMore a c
more_then None None c first next = next
more_then None (Some l) c first next = absurd cc
more_then (Some k) None c first next = absurd first
more_then (Some k) (Some l) None first next = next
more_then (Some k) (Some l) (Some m) first next = later_then k.entries l.entries m.entries first next

same_more : (o : Option EndLog) → TellsMore o o
same_more None = refl
same_more (Some l) = ([], refl)

pub goes_on : {A : Type 0} (tree : DriverTree A) (c d : RingContents) (x : A) → Plays tree c x d → GoesOn c d
goes_on (Done y) c d x plays = subst (GoesOn c) plays.1 (refl, λ sound. sound, same_more c.log)
goes_on (Ask call next) c d x plays =
    let first = one_goes call plays.0 c plays.1 plays.2 in
    let rest = goes_on (next plays.0) plays.1 d x plays.3 in
    (rest.0 ∙ first.0, λ sound. rest.1 (first.1 sound), more_then c.log plays.1.log d.log first.2 rest.2)

pub honest_stays : {A : Type 0} (tree : DriverTree A) (c d : RingContents) (x : A) → Plays tree c x d → d.honest ≡ c.honest
honest_stays tree c d x plays = (goes_on tree c d x plays).0

-- Nothing more is put on a connection after the SHUTDOWN that says 'no more is sent', by no call.
later_by : (old : EndLog) (o p : Option EndLog) (m : EndLog) → o ≡ Some old → p ≡ Some m → TellsMore o p → IsLater old.entries m.entries
later_by old o p m is told more = grind (arith, common_steps)

pub shut_still : {A : Type 0} (tree : DriverTree A) (c d : RingContents) (x : A) → IsSound Driver c → Plays tree c x d → c.honest ≡ true
    → ForSome c.log (λ l. ForSome d.log (λ m. StaysShut Driver l.entries m.entries))
shut_still tree c d x sound plays = λ on l is m told. let went = goes_on tree c d x plays in
    stays_shut Driver l.entries m.entries (later_by l c.log d.log m is told went.2) (went.1 sound (went.0 ∙ on) m told)
