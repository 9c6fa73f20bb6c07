-- What the calls of a journal leave of the driver's connections, of its listeners, and of who waits there.
use Rattle.std.specs.Prelude.{◌≡◌, ℕ, ◌<◌, ◌==◌, ◌&&◌, ◌||◌, Bool, true, false, List, [], ◌∷◌, Option, Some, None, Result, Ok, Err}
use Rattle.std.specs.{List.All, List.list_any, Option.ForSome, Option.option_map_or}
use Rattle.vs_conn.specs.declared.{end.State.State, end.State.TheVariants.{Answering, Ended, Live}, shut.Shut.Shut}
use Rattle.vs_flow.specs.{Flow.host_asks, Table.Table, declared.flow.Flow.Flow}
use Rattle.vs_ring_port.specs.Contents.{RingContents}
use Rattle.vs_driver_parts.specs.{Listening.listener_on, SlotFields.AreNumbered, State.{DriverConnection, DriverEntry, DriverState, GoneConnection, Listener}}
use Rattle.vs_driver_parts.specs.declared.answers.{Accepted.Accepted, Closed.Closed, ConnectError.ConnectError, ListenError.ListenError}
use Rattle.vs_driver_parts.specs.declared.answers.Accepted.TheVariants as accepted
use Rattle.vs_driver_parts.specs.declared.answers.Closed.TheVariants as closed
use Rattle.laws_driver.specs.Carried.Calls.{Accept, Close, Connect, GuestCall, Journal, Listen, ReplyTo, names}
use Rattle.vs_apps_parts.specs.declared.journal.{Called.Called, Deed.Deed, Entry.Entry}
use Rattle.vs_apps_parts.specs.declared.journal.Called.TheVariants as called
use Rattle.vs_apps_parts.specs.declared.journal.Deed.TheVariants as deed

-- The id that a call was given: of the connection that it asked for, or accepted.
abbrev pub asked_as : Result ℕ ConnectError → Option ℕ
asked_as (Ok id) = Some id
asked_as (Err why) = None

abbrev pub accepted_as : Accepted → Option ℕ
accepted_as (accepted.Conn id) = Some id
accepted_as answer = None

abbrev pub given_by : (call : GuestCall) → ReplyTo call → Option ℕ
given_by (Connect port) reply = asked_as reply
given_by (Accept port) reply = accepted_as reply
given_by call reply = None

-- The id that it closed; and the port on which it listened from then on.
abbrev pub closed_as : ℕ → Closed → Option ℕ
closed_as id closed.Done = Some id
closed_as id closed.Unknown = None

abbrev pub closed_by : (call : GuestCall) → ReplyTo call → Option ℕ
closed_by (Close id) reply = closed_as id reply
closed_by call reply = None

abbrev pub listened_as : ℕ → Result (Unit {0}) ListenError → Option ℕ
listened_as port (Ok x) = Some port
listened_as port (Err why) = None

abbrev pub listened_by : (call : GuestCall) → ReplyTo call → Option ℕ
listened_by (Listen port) reply = listened_as port reply
listened_by call reply = None

-- So some call of a journal did.
abbrev pub some_did : ((call : GuestCall) → ReplyTo call → Option ℕ) → ℕ → Journal → Bool
some_did by n [] = false
some_did by n (m ∷ older) = names n (by m.call m.reply) || some_did by n older

abbrev pub was_given : ℕ → Journal → Bool
was_given id journal = some_did given_by id journal

abbrev pub was_closed : ℕ → Journal → Bool
was_closed id journal = some_did closed_by id journal

abbrev pub was_listened : ℕ → Journal → Bool
was_listened port journal = some_did listened_by port journal

-- A connection waits on a port.
abbrev pub waits_at : ℕ → ℕ → List Listener → Bool
waits_at port id ls = list_any (λ w. w == id) (option_map_or (λ l. l.waiting) (listener_on port ls) [])

-- An id was given to an app, or closed, or it waits on the port of its flow. One that the guest asked for was given.
pub record IsPlaced (journal : Journal) (ls : List Listener) (id : ℕ) (f : Flow) : Type 0 where
  pub known : (was_given id journal || (was_closed id journal || waits_at f.guest id ls)) ≡ true
  pub own : host_asks f ≡ false → was_given id journal ≡ true

-- How an end stands whose id was closed, and one whose RESPONSE isn't put.
abbrev pub stands_closed : State → Shut → Bool
stands_closed Live own = own.send && own.receive
stands_closed Ended own = true
stands_closed state own = false

abbrev pub stands_unanswered : State → Bool
stands_unanswered Answering = true
stands_unanswered Ended = true
stands_unanswered state = false

-- A connection is closed where its id was.
pub record IsPlacedValue (journal : Journal) (c : DriverConnection) : Type 0 where
  pub closed : c.closed ≡ was_closed c.id journal
  pub shut : c.closed ≡ true → stands_closed c.end.state c.end.own ≡ true
  pub waits : c.unanswered ≡ true → stands_unanswered c.end.state ≡ true

pub record IsPlacedEntry (journal : Journal) (ls : List Listener) (e : DriverEntry) : Type 0 where
  pub placed : IsPlaced journal ls e.value.id e.flow
  pub value : IsPlacedValue journal e.value

pub record IsPlacedGone (journal : Journal) (ls : List Listener) (g : GoneConnection) : Type 0 where
  pub placed : IsPlaced journal ls g.id g.flow
  pub kept : was_closed g.id journal ≡ false

-- So are all connections that hold a slot; an id that was closed had been given; and each port that is listened on was so by a call.
pub record HasPlaces (journal : Journal) (port next : ℕ) (table : Table DriverConnection) (left : List GoneConnection) (ls : List Listener) : Type 0 where
  pub numbers : AreNumbered 1 port next table left
  pub entries : All (IsPlacedEntry journal ls) table.entries
  pub gone : All (IsPlacedGone journal ls) left
  pub below : (id : ℕ) → was_closed id journal ≡ true → id < next
  pub ports : All (λ l. was_listened l.port journal ≡ true) ls

abbrev pub ArePlaced : Journal → DriverState → Type 0
ArePlaced journal s = HasPlaces journal s.next_port s.next_id s.table s.gone s.listeners

-- Each entry is one of the first apps, so many; and it has the flow of the connection that was asked for, which goes to the port of the call, or was accepted
-- there, of a client of the host.
abbrev pub IsTo : (Flow → Type 0) → Option Flow → Type 0
IsTo P None = ⊥
IsTo P (Some f) = P f

abbrev pub HasItsFlow : (Flow → Type 0) → Option ℕ → Option Flow → Type 0
HasItsFlow P None flow = Unit {0}
HasItsFlow P (Some id) flow = IsTo P flow

abbrev pub IsAsked : ℕ → Flow → Type 0
IsAsked port f = f.host ≡ port

abbrev pub IsClients : ℕ → Flow → Type 0
IsClients port f = (f.guest ≡ port) × (host_asks f ≡ true)

abbrev pub NamesFlow : Called → Type 0
NamesFlow (called.Connect port answer flow) = HasItsFlow (IsAsked port) (asked_as answer) flow
NamesFlow (called.Accept port answer flow) = HasItsFlow (IsClients port) (accepted_as answer) flow
NamesFlow c = Unit {0}

abbrev pub NamesOne : Deed → Type 0
NamesOne (deed.Called c) = NamesFlow c
NamesOne (deed.Waited times why) = Unit {0}

pub record IsOwned (n : ℕ) (e : Entry) : Type 0 where
  pub app : e.app < n
  pub flow : NamesOne e.deed

abbrev pub AreOwned : ℕ → List Entry → Type 0
AreOwned n [] = Unit {0}
AreOwned n (e ∷ es) = IsOwned n e × AreOwned n es

-- So it is where an honest ring tells the log.
abbrev pub ArePlacedWith : ℕ → Journal → List Entry → DriverState → RingContents → Type 0
ArePlacedWith n journal entries s c = c.honest ≡ true → ForSome c.log (λ l. ArePlaced journal s × AreOwned n entries)
