-- The payload that the driver puts, connection by connection.
use Rattle.laws_tables.specs.{Drains.only_on, Later.{IsLater, IsPast, StillPast}}
use Rattle.std.specs.{Option.ForSome, Prelude.{◌≡◌, ℕ, true, List, [], ◌++◌, take, Option, Some, None}}
use Rattle.vs_flow.specs.Connection.{Connection}
use Rattle.vs_page.specs.{Fair.{current, payload_put}, Log.{Driver, Log}}
use Rattle.vs_contents.specs.Contents.{Relates}
use Rattle.vs_ring_port.specs.{Contents.RingContents, EndLog.EndLog}
use Rattle.vs_driver_parts.specs.{declared.answers.Sent.Sent, State.{DriverState, entry_known_as}}
use Rattle.laws_driver.specs.Honest.{ends_of_state}
use Rattle.vs_driver_parts.specs.declared.answers.Sent.TheVariants as sent

-- No bytes on any connection.
abbrev pub none_on : Log → Connection → List ℕ
none_on log c = []

-- The bytes that a send took: of those that it was given the first.
abbrev pub took : List ℕ → Sent → List ℕ
took bytes (sent.Took n) = take n bytes
took bytes _ = []

-- They go on the present connection of the flow of its id.
abbrev pub sent_by : ℕ → List ℕ → Sent → DriverState → Log → Connection → List ℕ
sent_by id bytes answer s log c = elim (entry_known_as id s) [
  | None ↦ []
  | Some e ↦ only_on (current Driver e.flow log) (took bytes answer) c
]

-- A log that is told, where one was, with more entries.
abbrev pub TellsMore : Option EndLog → Option EndLog → Type 0
TellsMore old new = Relates old new (λ l m. IsLater l.entries m.entries)

-- Where an honest ring tells its log, the payload that was put on each connection has grown by just this.
abbrev pub PutsJust : (Log → Connection → List ℕ) → RingContents → RingContents → Type 0
PutsJust more old new = old.honest ≡ true → ForSome old.log (λ l. ForSome new.log (λ m.
    (c : Connection) → payload_put Driver c m.entries ≡ payload_put Driver c l.entries ++ more l.entries c))

-- Where an honest ring tells its log: a connection on which no more payload is put, by the driver as it was, is one by the driver as it is, and
-- no payload was put there.
abbrev pub StaysPast : Connection → DriverState → DriverState → RingContents → RingContents → Type 0
StaysPast c s t old new = old.honest ≡ true → ForSome old.log (λ l. ForSome new.log (λ m. IsPast Driver c (record { part = ends_of_state s; log = l.entries })
    → StillPast Driver c (record { part = ends_of_state s; log = l.entries }) (record { part = ends_of_state t; log = m.entries })))
