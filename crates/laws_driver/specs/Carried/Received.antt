-- What an application received on the driver's connections, against the payload that was got on them.
use Rattle.std.specs.{List.All, Option.ForSome, Prelude.{◌≡◌, ℕ, ◌≤◌, ◌<◌, ◌==◌, ◌++◌, ◌&&◌, ◌||◌, not, Bool, true, false, if◌then◌else◌, List, [], ◌∷◌, take}}
use Rattle.vs_conn.specs.{End.is_open, declared.end.State.TheVariants.{Ended}}
use Rattle.vs_flow.specs.{Connection.Connection, Flow.host_flow, declared.flow.Flow.Flow}
use Rattle.laws_history.specs.{Packets.{has, has_both, is_rst}, History.gots}
use Rattle.vs_page.specs.{Fair.{IsPrefixOf, current, number_of, payload_got}, Log.{Driver, Log, history_of}, declared.log.LogEntry.TheVariants.Mark}
use Rattle.vs_ring_port.specs.Contents.{RingContents}
use Rattle.vs_driver_parts.specs.{declared.answers.Received.Received, Held.HeldSlots, SlotFields.AreNumbered, State.DriverEntry}
use Rattle.vs_driver_parts.specs.{State.{DriverConnection, DriverState, GoneConnection}, Connections.{recv_of, unread_of_id}}
use Rattle.laws_driver.specs.Honest.{slots_of}
use Rattle.laws_tables.specs.{Drains.Drains, Later.IsLater}
use Rattle.vs_driver_parts.specs.declared.answers.Received.TheVariants as got

-- The account of an application: the id that its first connection got; by ids, which connection of which flow it is, 0 where none has the id;
-- and the bytes that the receives on it gave.
pub record Account : Type 0 where
  pub first_id : ℕ
  pub opened : ℕ → Connection
  pub received : ℕ → List ℕ

-- Before the first call.
abbrev pub no_account : ℕ → Account
no_account first_id = record {
  first_id = first_id;
  opened = λ id. let c : Connection = record { flow = host_flow 0 0; number = 0 } in c;
  received = λ id. [];
}

-- An id was given to a connection; a receive on an id gave these bytes.
abbrev pub with_opened : ℕ → Connection → Account → Account
with_opened id c a = record a { opened = λ other. if other == id then c else a.opened other }

abbrev pub with_received : ℕ → List ℕ → Account → Account
with_received id bytes a = record a { received = λ other. a.received other ++ (if other == id then bytes else []) }

-- The bytes that come with a receive's answer: of the unread ones the first.
abbrev pub bytes_got : Received → List ℕ → List ℕ
bytes_got (got.Got n) unread = take n unread
bytes_got _ unread = []

abbrev pub after_receive : ℕ → ℕ → DriverState → Account → Account
after_receive id n s a = with_received id (bytes_got (recv_of id n s) (unread_of_id id s)) a

-- A flow's present connection ended with this log: its peer put an RST or both SHUTDOWN bits, which no payload follows, or a transport reset
-- came last, after which none is delivered.
abbrev pub resets : Log → Bool
resets (Mark cid ∷ log) = true
resets _ = false

abbrev pub ends_with : Flow → Log → Bool
ends_with f log = let got = gots (history_of Driver f log) in resets log || (has is_rst got || has_both got)

-- Nothing of what is got is dropped: the application didn't say that it receives no more, and no close aborted the connection.
abbrev pub keeps_all : DriverConnection → Bool
keeps_all c = not (c.closed && not (is_open c.end.state) || c.end.own.receive)

-- Its RST is owed only after a close, or cleanly: its peer neither sends nor receives, and nothing is unread.
abbrev pub EndsClean : DriverConnection → Type 0
EndsClean c = c.closed ≡ false → c.end.state ≡ Ended → c.end.clean ≡ true

-- A connection of the table is the present one of its flow. What was received on it, and then the bytes that are unread, is the payload got on
-- it, as long as it keeps all; and then a prefix of that.
pub record ReceivesOn (a : Account) (log : Log) (e : DriverEntry) : Type 0 where
  pub present : a.opened e.value.id ≡ current Driver e.flow log
  pub some : 1 ≤ number_of Driver e.flow log
  pub drains : Drains (keeps_all e.value) (a.received e.value.id) e.value.unread (payload_got Driver (current Driver e.flow log) log)
  pub over : EndsClean e.value

-- One that is gone is a connection of its flow, the present one or an older one. What was received on it, and then the bytes that are unread,
-- is the payload that was got on it until it ended, however it did, unless its application said that it receives no more; and then a prefix.
abbrev pub DrainsTo : Bool → List ℕ → List ℕ → Connection → Log → Type 0
DrainsTo all out held c log = (front : Log) × IsLater front log × (c ≡ current Driver c.flow front) × (ends_with c.flow front ≡ true)
    × Drains all out held (payload_got Driver c front)

pub record ReceivedOn (a : Account) (log : Log) (g : GoneConnection) : Type 0 where
  pub flow : (a.opened g.id).flow ≡ g.flow
  pub some : 1 ≤ (a.opened g.id).number
  pub drains : DrainsTo (not g.end.own.receive) (a.received g.id) g.unread (a.opened g.id) log

-- The account is right: so are the connections of the table, and those that are gone. What was received on any id is a prefix of the payload
-- got on its connection. The connections of ids have passed, no two of them are one; ids that are still to be given have none.
pub record AreReceived (a : Account) (log : Log) (slots : HeldSlots) : Type 0 where
  pub numbers : AreNumbered a.first_id slots.next_port slots.next_id slots.table slots.gone
  pub front : (id : ℕ) → IsPrefixOf (a.received id) (payload_got Driver (a.opened id) log)
  pub held : All (ReceivesOn a log) slots.table.entries
  pub left : All (ReceivedOn a log) slots.gone
  pub passed : (id : ℕ) → (a.opened id).number ≤ number_of Driver (a.opened id).flow log
  pub once : (i j : ℕ) → 1 ≤ (a.opened i).number → a.opened i ≡ a.opened j → i ≡ j
  -- Of two ids of one flow the one that was given later has the later connection.
  pub rising : (i j : ℕ) → i < j → 1 ≤ (a.opened j).number → (a.opened i).flow ≡ (a.opened j).flow
      → (a.opened i).number < (a.opened j).number
  pub fresh : (id : ℕ) → slots.next_id ≤ id → ((a.opened id).number ≡ 0) × (a.received id ≡ [])

-- The same where an honest ring tells the log.
abbrev pub IsReceivedWith : Account → DriverState → RingContents → Type 0
IsReceivedWith a s c = c.honest ≡ true → ForSome c.log (λ l. AreReceived a l.entries (slots_of s))

-- Another account has all that this one has, and maybe more ids.
pub record GoesOn (a b : Account) : Type 0 where
  pub first_id : b.first_id ≡ a.first_id
  pub opened : (id : ℕ) → 1 ≤ (a.opened id).number → b.opened id ≡ a.opened id
  pub received : (id : ℕ) → b.received id ≡ a.received id

-- The account goes on to one that is right.
abbrev pub GoesOnWith : Account → DriverState → RingContents → Type 0
GoesOnWith a s c = c.honest ≡ true → ForSome c.log (λ l. (b : Account) × GoesOn a b × AreReceived b l.entries (slots_of s))
