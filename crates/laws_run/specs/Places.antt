-- What a wait for a place and a wait for a client say, of a run that is at rest.
use Rattle.std.specs.{List.{filter, list_any, range_with_len}, Option.option_map_or, Prelude.{◌≡◌, ℕ, ◌+◌, ◌<◌, ◌≤◌, ◌==◌, ◌&&◌, ◌||◌, not, Bool, true, false, List}}
use Rattle.std.specs.Prelude.{length, slice_get, Some}
use Rattle.vs_flow.specs.Connection.{Connection}
use Rattle.vs_limits.specs.declared.TheConstants.{DRIVER_CONNECTIONS}
use Rattle.vs_outside.specs.{Host.{HostContents, stream_at}, HostBytes.{connection_at, stream_of}}
use Rattle.laws_tables.specs.Drains.{is_same}
use Rattle.vs_script.specs.App.{Act, Accept, Listen}
use Rattle.laws_device.specs.Streams.{is_open_in}
use Rattle.laws_driver.specs.Carried.Calls.{Journal}
use Rattle.vs_apps_parts.specs.{Journals.calls_of, Scripts.{RunScript, acts_of}, declared.{journal.{Entry.Entry, WaitsFor.WaitsFor}, progress.AppState.AppState}}
use Rattle.vs_apps_parts.specs.declared.progress.Progress.{Progress}
use Rattle.laws_apps.specs.Placed.{was_closed}
use Rattle.laws_run.specs.Dry.{stream_open}
use Rattle.vs_run_report.specs.{Connections.opened_all, Endings.state_at, Report.ended_at, declared.{connection.Opened.Opened, ending.Ending.Ending}}
use Rattle.vs_apps_parts.specs.declared.journal.WaitsFor.TheVariants as waits
use Rattle.vs_run_report.specs.declared.ending.Ending.TheVariants as ending

-- A connection's stream is open, and takes nothing now.
abbrev pub takes_none : Connection → HostContents → Bool
takes_none c h = option_map_or (λ s. is_open_in s.state && option_map_or (λ n. n == 0) s.room false) (stream_of c h) false

-- A connection that has a line holds its slot: no close found it, or its stream takes nothing now.
abbrev pub holds_slot : (ℕ → Connection) → Journal → HostContents → Opened → Bool
holds_slot opened journal h o = not (was_closed o.id journal) || takes_none (opened o.id) h

-- A connection has a line.
abbrev pub has_line : (ℕ → Connection) → List Opened → Connection → Bool
has_line opened lines c = list_any (λ o. is_same c (opened o.id)) lines

-- A client's stream, by its id, that is a connection without a line.
abbrev pub is_unaccepted : (ℕ → Connection) → List Opened → HostContents → ℕ → Bool
is_unaccepted opened lines h id =
    option_map_or (λ s. s.by_client) (stream_at id h) false && option_map_or (λ c. not (has_line opened lines c)) (connection_at id h) false

-- All slots of the driver are held: by those that have lines, and by clients' that nobody accepted, of which all count, those too that hold none.
abbrev pub LacksPlace : (ℕ → Connection) → Journal → List Opened → HostContents → Type 0
LacksPlace opened journal lines h =
    DRIVER_CONNECTIONS ≤ length (filter (holds_slot opened journal h) lines)
    + length (filter (is_unaccepted opened lines h) (range_with_len 1 (length h.streams)))

-- The script listens on the port; and each connection on it whose stream is open has a line.
pub record LacksClient (script : RunScript) (opened : ℕ → Connection) (lines : List Opened) (h : HostContents) (port : ℕ) : Type 0 where
  pub listens : (k : ℕ) × (k < length script) × (i : ℕ) × (slice_get (acts_of k script) i ≡ Some (Listen port))
  pub lined : (c : Connection) → c.flow.guest ≡ port → 1 ≤ c.number → stream_open c h ≡ true → has_line opened lines c ≡ true

-- So the waits of an app at its next instruction say, where ids were given to these connections.
abbrev pub IsPlaceWait : RunScript → (ℕ → Connection) → Journal → List Opened → HostContents → List Act → Progress → WaitsFor → Type 0
IsPlaceWait script opened journal lines h acts p waits.Full = LacksPlace opened journal lines h
IsPlaceWait script opened journal lines h acts p waits.NoneWaiting =
    (port : ℕ) → slice_get acts p.at ≡ Some (Accept port) → LacksClient script opened lines h port
IsPlaceWait script opened journal lines h acts p why = Unit {0}

abbrev pub IsPlaceEnding : RunScript → (ℕ → Connection) → Journal → List Opened → HostContents → List Act → Progress → Ending → Type 0
IsPlaceEnding script opened journal lines h acts p (ending.Waited why at) = IsPlaceWait script opened journal lines h acts p why
IsPlaceEnding script opened journal lines h acts p e = Unit {0}

abbrev pub ArePlaceWaits : RunScript → List AppState → List Entry → List ℕ → (ℕ → Connection) → HostContents → Type 0
ArePlaceWaits script apps entries bytes opened h = (k : ℕ) → k < length script
    → IsPlaceEnding script opened (calls_of script bytes entries) (opened_all (length script) entries) h (acts_of k script) (state_at k apps).progress
    (ended_at script apps entries k)
