-- The guest's own calls, each with what it answers; and the journal of those that were made.
use Rattle.std.specs.{Prelude.{◌≡◌, ℕ, ◌≤◌, ◌^◌, ◌==◌, nat_lt, Bool, true, false, if◌then◌else◌, List, [], ◌∷◌, ◌++◌, Option, Some, None, Result, Ok, Err, is_some}, Option.ForSome}
use Rattle.std.specs.Option.{option_map_or}
use Rattle.vs_contents.specs.CallTree.{Done}
use Rattle.vs_flow.specs.{Connection.Connection, declared.flow.Flow.Flow}
use Rattle.vs_driver_parts.specs.declared.answers.{Accepted.Accepted, Closed.Closed, ConnectError.ConnectError, ConnectionState.ConnectionState, ListenError.ListenError}
use Rattle.vs_driver_parts.specs.{declared.answers.{Received.Received, Sent.Sent, Shut.Shut, Grown.Grown}, State.DriverState, Connections.{recv_of, unread_of_id, after_recv}}
use Rattle.vs_driver_parts.specs.Connections.{after_grow, grow_of, shutdown_of, after_shutdown, close_of, after_close, after_unlisten, state_of, flow_of, next_flow}
use Rattle.vs_driver_parts.specs.{Conversations.{DriverTree, connect_of, send_of}, Listening.{listener_on, listen_of, listening, accept_of, after_accept}, Steps.{connects, sends}}
use Rattle.vs_limits.specs.declared.TheConstants.{HOST_CID}
use Rattle.vs_page.specs.Log.{Log}
use Rattle.vs_ring_port.specs.Contents.{RingContents}
use Rattle.laws_driver.specs.{Honest.slots_of, Carried.{Received.{Account, AreReceived, bytes_got}, Sent.{sent_by, took}}}
use Rattle.vs_driver_parts.specs.declared.answers.Accepted.TheVariants as accepted

-- A call on the driver, a poll aside. A receive is into a buffer of so many bytes.
pub data GuestCall : Type 0 where
  Connect : ℕ → GuestCall
  Listen : ℕ → GuestCall
  Unlisten : ℕ → GuestCall
  Accept : ℕ → GuestCall
  Send : ℕ → List ℕ → GuestCall
  Recv : ℕ → ℕ → GuestCall
  Shutdown : ℕ → ℕ → GuestCall
  Grow : ℕ → ℕ → GuestCall
  Close : ℕ → GuestCall
  LookAt : ℕ → GuestCall

-- A port has 32 bits.
abbrev pub is_right : GuestCall → Bool
is_right (Connect port) = nat_lt port (2 ^ 32)
is_right _ = true

-- What each answers. A receive gives the bytes that it read; an unlisten says whether the port was listened on.
abbrev pub ReplyTo : GuestCall → Type 0
ReplyTo (Connect port) = Result ℕ ConnectError
ReplyTo (Listen port) = Result (Unit {0}) ListenError
ReplyTo (Unlisten port) = Bool
ReplyTo (Accept port) = Accepted
ReplyTo (Send id bytes) = Sent
ReplyTo (Recv id n) = Received × List ℕ
ReplyTo (Shutdown id bits) = Shut
ReplyTo (Grow id alloc) = Grown
ReplyTo (Close id) = Closed
ReplyTo (LookAt id) = ConnectionState

-- A call on the pages as they stand.
abbrev pub makes_call : (call : GuestCall) → DriverState → DriverTree (DriverState × ReplyTo call)
makes_call (Connect port) s = connects port s
makes_call (Listen port) s = Done (elim (listen_of port s) [ Ok x ↦ listening port s | Err why ↦ s ], listen_of port s)
makes_call (Unlisten port) s =
    let found = is_some (listener_on port s.listeners) in Done (elim found [ true ↦ after_unlisten port s | false ↦ s ], found)
makes_call (Accept port) s = Done (after_accept port s, accept_of port s)
makes_call (Send id bytes) s = sends id bytes s
makes_call (Recv id n) s = Done (after_recv id n s, (recv_of id n s, bytes_got (recv_of id n s) (unread_of_id id s)))
makes_call (Shutdown id bits) s = Done (after_shutdown id bits s, shutdown_of id s)
makes_call (Grow id alloc) s = Done (after_grow id alloc s, grow_of id alloc s)
makes_call (Close id) s = Done (after_close id s, close_of id s)
makes_call (LookAt id) s = Done (s, state_of id s)

-- The same, whole: connect and send take pages back first.
abbrev pub whole_call : (call : GuestCall) → DriverState → DriverTree (DriverState × ReplyTo call)
whole_call (Connect port) s = connect_of port s
whole_call (Send id bytes) s = send_of id bytes s
whole_call call s = makes_call call s

-- The connection that a call names, by its id and by its flow. A connect names the one that it opens.
abbrev pub id_named : GuestCall → DriverState → Option ℕ
id_named (Connect port) s = Some s.next_id
id_named (Send id bytes) s = Some id
id_named (Recv id n) s = Some id
id_named (Shutdown id bits) s = Some id
id_named (Grow id alloc) s = Some id
id_named (Close id) s = Some id
id_named (LookAt id) s = Some id
id_named _ s = None

abbrev pub flow_named : GuestCall → DriverState → Option Flow
flow_named (Connect port) s = Some (next_flow HOST_CID port s)
flow_named (Send id bytes) s = flow_of id s
flow_named (Recv id n) s = flow_of id s
flow_named (Shutdown id bits) s = flow_of id s
flow_named (Grow id alloc) s = flow_of id s
flow_named (Close id) s = flow_of id s
flow_named (LookAt id) s = flow_of id s
flow_named _ s = None

-- The flow of the connection that a connect opened or an accept gave, by the driver after it.
abbrev pub flow_opened : Result ℕ ConnectError → DriverState → Option Flow
flow_opened (Ok id) s = flow_of id s
flow_opened (Err why) s = None

abbrev pub flow_accepted : Accepted → DriverState → Option Flow
flow_accepted (accepted.Conn id) s = flow_of id s
flow_accepted answer s = None

-- A call that was made, with its reply, and the connection that it named.
pub record Made : Type 0 where
  pub call : GuestCall
  pub id : Option ℕ
  pub flow : Option Flow
  pub reply : ReplyTo call

-- The newest call first.
abbrev pub Journal : Type 0
Journal = List Made

abbrev pub with_call : (call : GuestCall) → DriverState → ReplyTo call → Journal → Journal
with_call call s reply journal = record { call = call; id = id_named call s; flow = flow_named call s; reply = reply } ∷ journal

-- The bytes that a call took, and those that it gave.
abbrev pub bytes_sent : (call : GuestCall) → ReplyTo call → List ℕ
bytes_sent (Send id bytes) reply = took bytes reply
bytes_sent _ reply = []

abbrev pub bytes_received : (call : GuestCall) → ReplyTo call → List ℕ
bytes_received (Recv id n) reply = reply.1
bytes_received _ reply = []

-- What was received on a connection, by its id.
abbrev pub names : ℕ → Option ℕ → Bool
names id named = option_map_or (λ other. id == other) named false

abbrev pub received_by : ℕ → Journal → List ℕ
received_by id [] = []
received_by id (made ∷ older) = received_by id older ++ (if names id made.id then bytes_received made.call made.reply else [])

-- The account that a journal comes to, where ids were given to these connections.
abbrev pub account_of : ℕ → (ℕ → Connection) → Journal → Account
account_of first_id opened journal = record { first_id = first_id; opened = opened; received = λ id. received_by id journal }

-- The payload that a call puts on each connection, where this is the log before it: a send's, on the connection of its id.
abbrev pub sent_of : (call : GuestCall) → ReplyTo call → DriverState → Log → Connection → List ℕ
sent_of (Send id bytes) reply s log c = sent_by id bytes reply s log c
sent_of _ reply s log c = []

-- Where an honest ring tells the log, the account is right that the journal comes to. Ids that had connections keep them, others may get one.
abbrev pub IsJournaledWith : ℕ → (ℕ → Connection) → Journal → DriverState → RingContents → Type 0
IsJournaledWith first_id opened journal s c = c.honest ≡ true → ForSome c.log (λ l. (now : ℕ → Connection)
    × ((id : ℕ) → 1 ≤ (opened id).number → now id ≡ opened id) × AreReceived (account_of first_id now journal) l.entries (slots_of s))
