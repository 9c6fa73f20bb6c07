-- The driver and the device, each with its connections and its log, over any order of their steps.
use Rattle.std.specs.Prelude.{◌≡◌, ℕ, ◌≤◌, Bool, true, false, if◌then◌else◌, is_some, List, [], ◌∷◌, length, Some}
use Rattle.vs_conn.specs.{Follows.{FitsMessage, IsTaken}, declared.end.{Owed.Owed, State.TheVariants.Live}, End.{CanSend, ConnectionEnd, aborted, grown, owes_of, wanting_credit}}
use Rattle.vs_conn.specs.End.{with_payload_forwarded, with_payload_sent, with_shut}
use Rattle.vs_credit.specs.Credit.{unread_of}
use Rattle.vs_flow.specs.declared.flow.Flow.{Flow}
use Rattle.vs_header.specs.{declared.Kind.Kind, Kind.kind_named}
use Rattle.laws_history.specs.{History.puts, Packets.{is_request, is_rst}, declared.packet.Packet.Packet}
use Rattle.vs_limits.specs.declared.TheConstants.{BUF_ALLOC_MAX}
use Rattle.vs_page.specs.{Fair.IsFairLog, Open.is_dropped, Log.{Driver, Device, HasGotAll, IsNextEvent, IsNextPacket, Log, Role, flow_got, history_of, other_role}}
use Rattle.vs_page.specs.declared.log.LogEntry.TheVariants.{GotEvent, GotPacket, Mark, PutEvent, PutPacket}
use Rattle.vs_replies.specs.declared.Reply.{Reply}
use Rattle.laws_tables.specs.{Ends.{Ends, answer_kind, ends_of, is_new}, Matches.Matches, Steps.{HasEnd, IsNextFlow, accepted, asking, emptied, opened, owed_on, paid}}
use Rattle.laws_tables.specs.Steps.{payload_on, refused, reply_on, request_on, reset, taken, with_end, with_replies}

-- What a connection decides, or forwards to its application.
pub data Decision : Type 0 where
  Forwards : ℕ → Decision
  Shuts : ℕ → Decision
  Aborts : Decision
  WantsCredit : Decision
  Grows : ℕ → Decision

abbrev pub decided : ConnectionEnd → Decision → ConnectionEnd
decided e (Forwards n) = with_payload_forwarded e n
decided e (Shuts bits) = with_shut e bits
decided e Aborts = aborted e
decided e WantsCredit = wanting_credit e
decided e (Grows alloc) = grown e alloc

abbrev pub MayDecide : ConnectionEnd → Decision → Type 0
MayDecide e (Forwards n) = n ≤ unread_of e.credit
MayDecide e (Grows alloc) = (e.state ≡ Live) × (e.credit.alloc ≤ alloc) × (alloc ≤ BUF_ALLOC_MAX)
MayDecide e _ = Unit {0}

-- A step of either. Where a flow has a connection, its end is named.
pub data Step : Type 0 where
  -- It asks for a connection, and puts its REQUEST; or owes it, at the device.
  Opens : Flow → Kind → Step
  Asks : Flow → Kind → Step
  Sends : Flow → ConnectionEnd → List ℕ → Step
  Pays : Flow → ConnectionEnd → Owed → Step
  -- It puts the oldest reply that is owed; these are owed after it.
  Replies : Reply → List Reply → Step
  Decides : Flow → ConnectionEnd → Decision → Step
  -- It takes a packet. A REQUEST on a flow without a connection is accepted or not.
  Takes : Packet → Bool → Step
  -- The device puts an event and makes a transport reset; the driver takes them, with the guest's CID.
  PutsEvent : ℕ → Step
  TakesEvent : ℕ → Step
  MakesReset : ℕ → Step
  TakesReset : ℕ → Step

-- What a packet does, by the ends of its flow.
abbrev pub answered : Bool → Bool → Packet → Flow → Ends → Ends
answered true true p f part = let h = p.header in accepted f (answer_kind h.kind) h part
answered _ _ p f part = let h = p.header in refused f (answer_kind h.kind) part

abbrev pub after_packet : Role → List ConnectionEnd → Packet → Flow → Bool → Ends → Ends
after_packet role [] p f answer part = if is_rst p then part else answered (is_request p) answer p f part
after_packet role (e ∷ more) p f answer part = taken role f e p part

abbrev pub after_taking : Role → Packet → Bool → Ends → Ends
after_taking role p answer part =
    let f = flow_got role p in
    if is_dropped role part.cid p.header then part else after_packet role (ends_of f part.entries) p f answer part

-- The connections after a step, and the entry that it adds to the log.
abbrev pub part_after : Role → Step → Ends → Ends
part_after role (Opens f kind) part = opened role f kind part
part_after role (Asks f kind) part = asking role f kind part
part_after role (Sends f e payload) part = with_end f (with_payload_sent e (length payload)) part
part_after role (Pays f e what) part = paid f e what part
part_after role (Replies r rest) part = with_replies rest part
part_after role (Decides f e what) part = with_end f (decided e what) part
part_after role (Takes p answer) part = after_taking role p answer part
part_after role (MakesReset cid) part = emptied cid part
part_after role (TakesReset cid) part = reset cid part
part_after role _ part = part

abbrev pub log_after : Role → ℕ → Step → Log → Log
log_after role cid (Opens f kind) log = PutPacket (request_on role cid f kind) ∷ log
log_after role cid (Sends f e payload) log = PutPacket (payload_on role cid f e payload) ∷ log
log_after role cid (Pays f e what) log = PutPacket (owed_on role cid f e what) ∷ log
log_after role cid (Replies r rest) log = PutPacket (reply_on role cid r) ∷ log
log_after role cid (Takes p answer) log = GotPacket p ∷ log
log_after role cid (PutsEvent id) log = PutEvent id ∷ log
log_after role cid (TakesEvent id) log = GotEvent id ∷ log
log_after role cid (MakesReset new) log = Mark new ∷ log
log_after role cid (TakesReset new) log = Mark new ∷ log
log_after role cid _ log = log

pub record Seat : Type 0 where
  pub part : Ends
  pub log : Log

abbrev pub after : Role → Step → Seat → Seat
after role step w = record { part = part_after role step w.part; log = log_after role w.part.cid step w.log }

-- Both seats. What one put and the other didn't get is under way.
pub record Both : Type 0 where
  pub driver : Seat
  pub device : Seat

abbrev pub at : Role → Both → Seat
at Driver b = b.driver
at Device b = b.device

abbrev pub with_seat : Role → Seat → Both → Both
with_seat Driver w b = record b { driver = w }
with_seat Device w b = record b { device = w }

-- A step may happen, as far as its seat alone says. What is taken is any packet whose fields fit, accepted only with a known type.
abbrev pub MayStep : Role → Step → Seat → Type 0
MayStep role (Opens f kind) w = IsNextFlow role f w.part
MayStep role (Asks f kind) w = (role ≡ Device) × IsNextFlow role f w.part
MayStep role (Sends f e payload) w =
    HasEnd f e w.part × CanSend e (length payload) × FitsMessage e (puts (history_of role f w.log)) (length payload)
MayStep role (Pays f e what) w = HasEnd f e w.part × (owes_of e ≡ Some what)
MayStep role (Replies r rest) w = w.part.replies ≡ r ∷ rest
MayStep role (Decides f e what) w = HasEnd f e w.part × (is_new e ≡ false) × MayDecide e what
MayStep role (Takes p answer) w = IsTaken p × (answer ≡ true → is_some (kind_named p.header.kind) ≡ true)
MayStep role (PutsEvent id) w = role ≡ Device
MayStep role (TakesEvent id) w = role ≡ Driver
MayStep role (MakesReset cid) w = role ≡ Device
MayStep role (TakesReset cid) w = role ≡ Driver

-- Steps of one seat.
abbrev pub MayStepAll : Role → List Step → Seat → Type 0
MayStepAll role [] w = Unit {0}
MayStepAll role (step ∷ steps) w = MayStep role step w × MayStepAll role steps (after role step w)

abbrev pub after_all : Role → List Step → Seat → Seat
after_all role [] w = w
after_all role (step ∷ steps) w = after_all role steps (after role step w)

-- With the other seat only the next packet, and the next event, that it put can be taken.
abbrev pub MayHappen : Role → Step → Both → Type 0
MayHappen role (Takes p answer) b = IsNextPacket (at role b).log (at (other_role role) b).log p
MayHappen role (TakesEvent id) b = (role ≡ Driver) × IsNextEvent (at role b).log (at (other_role role) b).log id
MayHappen role step b = MayStep role step (at role b)

abbrev pub happens : Role → Step → Both → Both
happens role step b = with_seat role (after role step (at role b)) b

pub record Happening : Type 0 where
  pub role : Role
  pub step : Step

abbrev pub MayRun : List Happening → Both → Type 0
MayRun [] b = Unit {0}
MayRun (x ∷ xs) b = MayHappen x.role x.step b × MayRun xs (happens x.role x.step b)

abbrev pub run : List Happening → Both → Both
run [] b = b
run (x ∷ xs) b = run xs (happens x.role x.step b)

-- Nothing passed. The guest has this CID, and ports are given from these on.
abbrev pub new_seat : ℕ → ℕ → Seat
new_seat first port = record { part = record { entries = []; replies = []; clean = []; next_port = port; cid = first }; log = [] }

abbrev pub start : ℕ → ℕ → ℕ → Both
start first guest_port host_port = record { driver = new_seat first guest_port; device = new_seat first host_port }

-- Each seat matches its log, which is fair, and it got what the other put first.
pub record IsSound (first : ℕ) (b : Both) : Type 0 where
  pub matches : (role : Role) → Matches role first (at role b).part (at role b).log
  pub fair : (role : Role) → IsFairLog role (at role b).log
  pub ties : (role : Role) → HasGotAll (at role b).log (at (other_role role) b).log
