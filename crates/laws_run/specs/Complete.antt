-- A complete run: what more the report of a run that is at rest says, and the streams of its host.
use Rattle.std.specs.{List.filter_map, Prelude.{◌≡◌, ℕ, ◌+◌, ◌<◌, ◌≤◌, ◌⊎◌, true, if◌then◌else◌, List, length, slice_get, Option, Some, None}}
use Rattle.vs_flow.specs.{Connection.Connection, declared.flow.Flow.Flow}
use Rattle.vs_outside.specs.{Host.{HostContents, Stream}, HostBytes.{host_read, host_wrote}}
use Rattle.laws_device.specs.Streams.{is_open_in}
use Rattle.laws_driver.specs.Carried.Calls.{Journal, received_by}
use Rattle.vs_apps_parts.specs.{Journals.{calls_of, sent_as}, Scripts.{RunScript, acts_of}, declared.{journal.{Entry.Entry, WaitsFor.WaitsFor}, progress.AppState.AppState}}
use Rattle.vs_apps_parts.specs.declared.progress.Progress.{Progress}
use Rattle.vs_script.specs.{App.{Act, Exchange}, Data.{Content, size_of}}
use Rattle.laws_apps.specs.{Given.AllGiven, Placed.AreOwned}
use Rattle.laws_rest.specs.Rest.{over_half}
use Rattle.laws_run.specs.{Bounds.IsBounded, Dry.{IsDry, IsFull, OfOpen, stream_open}, Labels.{AreClients, AreDialed}}
use Rattle.vs_report.specs.declared.giving.Totals.{Totals}
use Rattle.vs_run_report.specs.{Connections.opened_all, Endings.state_at, Report.ended_at, declared.ending.Ending.Ending}
use Rattle.vs_apps_parts.specs.declared.journal.WaitsFor.TheVariants as waits
use Rattle.vs_run_report.specs.declared.ending.Ending.TheVariants as ending

-- The labels of the streams that have one and that the proxy hasn't closed.
abbrev pub open_label : Stream → Option Flow
open_label s = if is_open_in s.state then s.label else None

abbrev pub open_labels : HostContents → List Flow
open_labels h = filter_map open_label h.streams

-- The app's last connection, by its id, has a stream that the proxy hasn't closed. What is so of one where an app waits for bytes: it is open, all that
-- the host's program wrote there and the proxy took was received, and nothing is there to be taken now, though more may come. And where an app waits for
-- credit: it is open, takes nothing now, and of what was sent there that program has at least so many bytes still to read, more than half of the buffer
-- space.
abbrev pub IsAtOpen : (ℕ → Connection) → HostContents → Option ℕ → ℕ → Type 0
IsAtOpen opened h conn id = (conn ≡ Some id) × (stream_open (opened id) h ≡ true)

abbrev pub LacksBytes : (ℕ → Connection) → Journal → HostContents → Option ℕ → Type 0
LacksBytes opened journal h conn =
    (id : ℕ) × IsAtOpen opened h conn id × (received_by id journal ≡ host_wrote (opened id) h) × OfOpen (opened id) h IsDry

abbrev pub LacksCredit : (ℕ → Connection) → Journal → HostContents → Option ℕ → Type 0
LacksCredit opened journal h conn =
    (id : ℕ) × IsAtOpen opened h conn id × (over_half + length (host_read (opened id) h) ≤ length (sent_as id journal)) × OfOpen (opened id) h IsFull

-- What is so of each wait, where the app is at this connection. None waits for a connection to open, or for a page.
abbrev pub IsCompleteWait : (ℕ → Connection) → Journal → HostContents → Option ℕ → WaitsFor → Type 0
IsCompleteWait opened journal h conn waits.Empty = LacksBytes opened journal h conn
IsCompleteWait opened journal h conn (waits.NoCredit tx alloc fwd) = LacksCredit opened journal h conn
IsCompleteWait opened journal h conn waits.NotOpen = ⊥
IsCompleteWait opened journal h conn (waits.NoDescriptor in_flight) = ⊥
IsCompleteWait opened journal h conn why = Unit {0}

abbrev pub IsCompleteEnding : (ℕ → Connection) → Journal → HostContents → Option ℕ → Ending → Type 0
IsCompleteEnding opened journal h conn (ending.Waited why at) = IsCompleteWait opened journal h conn why
IsCompleteEnding opened journal h conn e = Unit {0}

-- An app that waits for bytes in an exchange sent all that the exchange sends; or it lacks credit too.
abbrev pub IsCompleteExchange : (ℕ → Connection) → Journal → HostContents → List Act → Progress → Ending → Type 0
IsCompleteExchange opened journal h acts p (ending.Waited waits.Empty at) =
    (c : Content) → slice_get acts p.at ≡ Some (Exchange c) → (size_of c ≤ p.sent) ⊎ LacksCredit opened journal h p.conn
IsCompleteExchange opened journal h acts p e = Unit {0}

-- Both tables have as many entries as there are streams with a label that the proxy hasn't closed; so each wait; what was done is so; what each connect and
-- accept was given; and each connection of a client that has a line has its stream, as has each of the guest's at whose port the host listens, under the
-- proxy's base path, unless 64 streams have a label, where no fault was counted and no packet was dropped.
pub record IsCompleteRun (script : RunScript) (apps : List AppState) (entries : List Entry) (bytes : List ℕ) (t : Totals) (base : List ℕ)
    (opened : ℕ → Connection) (h : HostContents) : Type 0 where
  pub guest_open : t.guest_open ≡ length (open_labels h)
  pub device_open : t.device_open ≡ length (open_labels h)
  pub waits : (k : ℕ) → k < length script
      → IsCompleteEnding opened (calls_of script bytes entries) h (state_at k apps).progress.conn (ended_at script apps entries k)
  pub exchanges : (k : ℕ) → k < length script
      → IsCompleteExchange opened (calls_of script bytes entries) h (acts_of k script) (state_at k apps).progress (ended_at script apps entries k)
  pub bounded : IsBounded script apps entries bytes opened h
  pub given : AllGiven (calls_of script bytes entries)
  pub owned : AreOwned (length script) entries
  pub clients : AreClients opened (opened_all (length script) entries) h
  pub dialed : t.counters.faults ≡ 0 → t.counters.dropped ≡ 0 → AreDialed base opened (opened_all (length script) entries) h
