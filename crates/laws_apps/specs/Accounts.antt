-- The journal of a run against the driver's log: it is right, and its entries tell their flows.
use Rattle.std.specs.{Option.ForSome, Prelude.{◌≡◌, ℕ, ◌≤◌, true, List, [], ◌∷◌, Option, Some, None, Result, Ok, Err}}
use Rattle.vs_flow.specs.{Connection.Connection, declared.flow.Flow.Flow}
use Rattle.vs_page.specs.Log.{Log}
use Rattle.vs_ring_port.specs.Contents.{RingContents}
use Rattle.vs_driver_parts.specs.{Held.HeldSlots, State.DriverState, declared.answers.{Accepted.Accepted, ConnectError.ConnectError}}
use Rattle.laws_driver.specs.{Honest.slots_of, Carried.{Calls.Journal, Senders.IsRightJournal}}
use Rattle.vs_apps_parts.specs.declared.journal.{Called.Called, Entry.Entry}
use Rattle.vs_driver_parts.specs.declared.answers.Accepted.TheVariants as accepted
use Rattle.vs_apps_parts.specs.declared.journal.Called.TheVariants as called
use Rattle.vs_apps_parts.specs.declared.journal.Deed.TheVariants as deed

-- An id has a connection of this flow, if one is told.
abbrev pub HasOne : (ℕ → Connection) → ℕ → Option Flow → Type 0
HasOne opened id None = Unit {0}
HasOne opened id (Some f) = (1 ≤ (opened id).number) × ((opened id).flow ≡ f)

-- An entry that opened a connection, or accepted one, tells the flow of its id's.
abbrev pub IsConnected : (ℕ → Connection) → Result ℕ ConnectError → Option Flow → Type 0
IsConnected opened (Ok id) flow = HasOne opened id flow
IsConnected opened (Err why) flow = Unit {0}

abbrev pub IsAccepted : (ℕ → Connection) → Accepted → Option Flow → Type 0
IsAccepted opened (accepted.Conn id) flow = HasOne opened id flow
IsAccepted opened answer flow = Unit {0}

abbrev pub TellsFlow : (ℕ → Connection) → Called → Type 0
TellsFlow opened (called.Connect port answer flow) = IsConnected opened answer flow
TellsFlow opened (called.Accept port answer flow) = IsAccepted opened answer flow
TellsFlow opened c = Unit {0}

abbrev pub EntryTells : (ℕ → Connection) → Entry → Type 0
EntryTells opened e = elim e.deed [ deed.Called c ↦ TellsFlow opened c | deed.Waited times why ↦ Unit {0} ]

abbrev pub TellFlows : (ℕ → Connection) → List Entry → Type 0
TellFlows opened [] = Unit {0}
TellFlows opened (e ∷ es) = EntryTells opened e × TellFlows opened es

-- Ids were given to these connections: with them the journal is right, and its entries tell their flows.
pub record IsAccount (first_id : ℕ) (opened : ℕ → Connection) (journal : Journal) (entries : List Entry) (log : Log) (slots : HeldSlots)
    : Type 0 where
  pub right : IsRightJournal first_id opened journal log slots
  pub flows : TellFlows opened entries

-- The same where an honest ring tells the log.
abbrev pub IsAccounted : ℕ → Journal → List Entry → DriverState → RingContents → Type 0
IsAccounted first_id journal entries s c = c.honest ≡ true → ForSome c.log (λ l. (opened : ℕ → Connection)
    × IsAccount first_id opened journal entries l.entries (slots_of s))
