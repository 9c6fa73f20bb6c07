-- A right report of a run: what it says of each app and of each connection is what was done.
use Rattle.std.specs.{Prelude.{◌≡◌, ℕ, ◌-◌, ◌<◌, ◌≤◌, ◌||◌, Bool, true, false, List, length, slice_get, Some}, List.All}
use Rattle.vs_flow.specs.Connection.{Connection}
use Rattle.vs_page.specs.{Fair.{IsPrefixOf, number_of}, Log.{Driver, Log}}
use Rattle.vs_outside.specs.{Faults.one_more, Host.HostContents, HostBytes.{host_read, host_wrote}}
use Rattle.vs_script.specs.App.{Act, Connect, Accept, Send, Recv, Drain, Exchange}
use Rattle.laws_driver.specs.Carried.Calls.{Journal, received_by}
use Rattle.vs_apps_parts.specs.{Journals.{calls_of, calls_of_app, sent_as}, Scripts.{IsPlayed, RunScript, acts_of}, declared.journal.{Entry.Entry, WaitsFor.WaitsFor}}
use Rattle.vs_apps_parts.specs.declared.progress.AppState.{AppState}
use Rattle.vs_report.specs.declared.giving.Totals.{Totals}
use Rattle.vs_run_report.specs.{Connections.opened_all, Endings.state_at, Report.ended_at, declared.{connection.Opened.Opened, ending.Ending.Ending}}
use Rattle.vs_apps_parts.specs.declared.journal.WaitsFor.TheVariants as waits
use Rattle.vs_run_report.specs.declared.ending.Ending.TheVariants as ending

-- What each instruction may wait for.
abbrev pub waits_to_connect : WaitsFor → Bool
waits_to_connect waits.Full = true
waits_to_connect (waits.NoDescriptor in_flight) = true
waits_to_connect waits.NotOpen = true
waits_to_connect why = false

abbrev pub waits_to_accept : WaitsFor → Bool
waits_to_accept waits.NoneWaiting = true
waits_to_accept why = false

abbrev pub waits_to_send : WaitsFor → Bool
waits_to_send (waits.NoCredit tx alloc fwd) = true
waits_to_send (waits.NoDescriptor in_flight) = true
waits_to_send waits.NotOpen = true
waits_to_send why = false

abbrev pub waits_to_receive : WaitsFor → Bool
waits_to_receive waits.Empty = true
waits_to_receive waits.NotOpen = true
waits_to_receive why = false

abbrev pub may_wait : Act → WaitsFor → Bool
may_wait (Connect port) why = waits_to_connect why
may_wait (Accept port) why = waits_to_accept why
may_wait (Send c) why = waits_to_send why
may_wait (Recv n) why = waits_to_receive why
may_wait Drain why = waits_to_receive why
may_wait (Exchange c) why = waits_to_send why || waits_to_receive why
may_wait act why = false

-- An app is done; or it waits for what the instruction at which it waits may wait for.
abbrev pub IsRightEnding : List Act → Ending → Type 0
IsRightEnding acts ending.Done = Unit {0}
IsRightEnding acts (ending.Waited why at) = (act : Act) × (slice_get acts (at - 1) ≡ Some act) × (may_wait act why ≡ true)
IsRightEnding acts (ending.GoesOn at) = ⊥

-- A connection that an app opened, where ids were given to these connections: one of those that the guest's log began on its flow. What its host
-- program read is a prefix of what was sent on it, and what was received on it is a prefix of what that program wrote. Their numbers stand in its line.
pub record IsRightConnection (opened : ℕ → Connection) (log : Log) (journal : Journal) (h : HostContents) (o : Opened) : Type 0 where
  pub some : 1 ≤ (opened o.id).number
  pub passed : (opened o.id).number ≤ number_of Driver o.flow log
  pub flow : (opened o.id).flow ≡ o.flow
  pub to_host : IsPrefixOf (host_read (opened o.id) h) (sent_as o.id journal)
  pub to_guest : IsPrefixOf (received_by o.id journal) (host_wrote (opened o.id) h)

-- The last line: nothing was dropped, no payload went beyond its room, no connection of the guest was broken; and a fault was counted only
-- where one more call of the host failed than before, or more. (A count stands still at its last number.)
pub record HasNoLoss (before after : ℕ) (t : Totals) : Type 0 where
  pub dropped : t.counters.dropped ≡ 0
  pub overrun : t.counters.overrun ≡ 0
  pub broken : t.broken ≡ 0
  pub faults : 1 ≤ t.counters.faults → one_more before ≤ after

-- The report that is made of these: the calls of each app are, in order, its instructions, and so on. Of two ids of one flow the one that was given later
-- has the later connection.
pub record IsRightReport (script : RunScript) (apps : List AppState) (entries : List Entry) (bytes : List ℕ) (t : Totals)
    (opened : ℕ → Connection) (log : Log) (h : HostContents) (before after : ℕ) : Type 0 where
  pub played : (k : ℕ) → k < length script → IsPlayed (acts_of k script) (calls_of_app k script bytes entries) (state_at k apps).progress
  pub ended : (k : ℕ) → k < length script → IsRightEnding (acts_of k script) (ended_at script apps entries k)
  pub rising : (i j : ℕ) → i < j → 1 ≤ (opened j).number → (opened i).flow ≡ (opened j).flow → (opened i).number < (opened j).number
  pub connections : All (IsRightConnection opened log (calls_of script bytes entries) h) (opened_all (length script) entries)
  pub totals : HasNoLoss before after t
