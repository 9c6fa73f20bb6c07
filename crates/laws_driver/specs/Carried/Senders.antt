-- What a journal says was sent, by connections; and a journal that is right.
use Rattle.laws_tables.specs.Drains.{only_on}
use Rattle.std.specs.{Option.ForSome, Prelude.{◌≡◌, ◌⊎◌, ℕ, ◌≤◌, ◌++◌, true, List, [], ◌∷◌, Option, Some, None}}
use Rattle.vs_flow.specs.Connection.{Connection}
use Rattle.vs_page.specs.{Fair.payload_put, Log.{Driver, Log}}
use Rattle.vs_ring_port.specs.Contents.{RingContents}
use Rattle.vs_driver_parts.specs.{Held.HeldSlots, State.DriverState}
use Rattle.laws_driver.specs.{Honest.slots_of, Carried.{Calls.{Journal, account_of, bytes_sent}, Received.AreReceived}}

-- What was sent on a connection, where ids were given to these.
abbrev pub sent_there : (ℕ → Connection) → Connection → Option ℕ → List ℕ → List ℕ
sent_there opened c None bytes = []
sent_there opened c (Some id) bytes = only_on (opened id) bytes c

abbrev pub sent_to : (ℕ → Connection) → Connection → Journal → List ℕ
sent_to opened c [] = []
sent_to opened c (m ∷ older) = sent_to opened c older ++ sent_there opened c m.id (bytes_sent m.call m.reply)

-- A call that sent bytes did so on an id that has a connection.
abbrev pub HasConnection : (ℕ → Connection) → Option ℕ → Type 0
HasConnection opened None = ⊥
HasConnection opened (Some id) = 1 ≤ (opened id).number

abbrev pub IsSender : (ℕ → Connection) → Option ℕ → List ℕ → Type 0
IsSender opened named bytes = (bytes ≡ []) ⊎ HasConnection opened named

abbrev pub AreSenders : (ℕ → Connection) → Journal → Type 0
AreSenders opened [] = Unit {0}
AreSenders opened (m ∷ older) = IsSender opened m.id (bytes_sent m.call m.reply) × AreSenders opened older

-- The payload put on each connection is what was sent there.
pub record IsSent (opened : ℕ → Connection) (journal : Journal) (log : Log) : Type 0 where
  pub senders : AreSenders opened journal
  pub puts : (c : Connection) → payload_put Driver c log ≡ sent_to opened c journal

-- A journal is right by this log, where ids were given to these connections: what it says was sent and received is what was put, and what
-- was got.
pub record IsRightJournal (first_id : ℕ) (opened : ℕ → Connection) (journal : Journal) (log : Log) (slots : HeldSlots) : Type 0 where
  pub received : AreReceived (account_of first_id opened journal) log slots
  pub sent : IsSent opened journal log

-- The same where an honest ring tells the log; and with more ids, where those that had connections keep them.
abbrev pub IsRightWith : ℕ → (ℕ → Connection) → Journal → DriverState → RingContents → Type 0
IsRightWith first_id opened journal s c = c.honest ≡ true → ForSome c.log (λ l. IsRightJournal first_id opened journal l.entries (slots_of s))

abbrev pub GoesRightWith : ℕ → (ℕ → Connection) → Journal → DriverState → RingContents → Type 0
GoesRightWith first_id opened journal s c = c.honest ≡ true → ForSome c.log (λ l. (now : ℕ → Connection)
    × ((id : ℕ) → 1 ≤ (opened id).number → now id ≡ opened id) × IsRightJournal first_id now journal l.entries (slots_of s))
