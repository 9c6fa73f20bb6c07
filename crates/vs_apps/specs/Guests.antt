-- The guests of a run: the driver and its end of shared rings, the apps and the journal.
use Rattle.std.specs.Prelude.{◌≡◌, ℕ, ◌+◌, min, List}
use Rattle.vs_limits.specs.declared.TheConstants.{FIRST_CID, LAST_PORT}
use Rattle.vs_driver_parts.specs.{Playing.IsRingOf, State.DriverState}
use Rattle.vs_ring_shared.specs.Sights.{Sight, driver_contents, flight_of, staged_of}
use Rattle.vs_apps_parts.specs.{Scripts.{AreRight, RunScript}, Sums.JournalState, declared.{journal.Entry.Entry, progress.AppState.AppState}}
use Rattle.laws_apps.specs.{Calls.run_with, Ports.{ArePortsFrom, port_behind}, Runs.{IsRunOf, Run}}

pub record GuestsState : Type 0 where
  pub driver : DriverState
  pub end : Sight
  pub apps : List AppState
  pub entries : List Entry
  pub bytes : List ℕ

abbrev pub guests_with : DriverState → Sight → List AppState → JournalState → GuestsState
guests_with driver end apps journal = record { driver = driver; end = end; apps = apps; entries = journal.entries; bytes = journal.bytes }

abbrev pub run_in : GuestsState → Run
run_in g = run_with g.driver (driver_contents g.end) g.apps g.entries g.bytes

-- The ring is the driver's, and all together are a run of a right script, where the first CID of shared rings was the guest's at first, and this the
-- guest's first port.
pub record AreGuests (first : ℕ) (script : RunScript) (g : GuestsState) : Type 0 where
  pub right : AreRight script
  pub ring : IsRingOf g.end.size (flight_of g.end) (staged_of g.end) g.driver
  pub run : IsRunOf FIRST_CID script (run_in g)
  pub ports : ArePortsFrom first g.entries
  pub next : g.driver.next_port ≡ min (port_behind first g.entries) (LAST_PORT + 1)
