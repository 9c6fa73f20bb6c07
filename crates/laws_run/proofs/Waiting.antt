-- What an app may wait for at rest, by the driver's answer to its next call.
use Rattle.std.proofs.Common.{arith}
use Rattle.std.proofs.lemmas.Grind.{common_steps}
use Rattle.std.proofs.{Common.{◌≡◌, ◌≢◌, ℕ, true, false, cond, List, [], Option, Some, Ok}}
use Rattle.vs_conn.specs.{declared.end.State.{TheVariants.{Live}}}
use Rattle.vs_script.specs.{App.{Act}}
use Rattle.vs_driver_parts.specs.{Connections.{is_at_end, nothing_read}, State.{DriverEntry, DriverState}}
use Rattle.vs_driver_parts.specs.{State.{entry_known_as}}
use Rattle.laws_driver.specs.Carried.Calls.{GuestCall}
use Rattle.laws_tables.specs.Drains.{receives}
use Rattle.vs_apps_parts.specs.{Scripts.{calls_next, id_of}, Told.{told_recv, wait_of}, declared.journal.WaitsFor.WaitsFor}
use Rattle.vs_apps_parts.specs.declared.progress.Progress.{Progress}
use Rattle.laws_run.proofs.Halting.{SaysToSend, Stops, last_of}
use Rattle.vs_driver_parts.specs.declared.answers.Received.TheVariants as got
use Rattle.laws_driver.specs.Carried.Calls as call
use Rattle.vs_apps_parts.specs.declared.journal.WaitsFor.TheVariants as waits

-- The connection of a call that waits: it isn't Live; or it is, and nothing is unread there, though more may come.
pub record NotLive (s : DriverState) : Type 0 where
  pub id : ℕ
  pub entry : DriverEntry
  pub there : entry_known_as id s ≡ Some entry
  pub state : entry.value.end.state ≢ Live

pub record HasNoneUnread (id : ℕ) (s : DriverState) : Type 0 where
  pub entry : DriverEntry
  pub there : entry_known_as id s ≡ Some entry
  pub unread : entry.value.unread ≡ []
  pub receives : receives entry.value.end ≡ true
  pub more : is_at_end entry.value.end ≡ false

-- Which answers tell so.
record OfEntry (why : WaitsFor) (o : Option DriverEntry) : Type 0 where
  entry : DriverEntry
  there : o ≡ Some entry
  unread : entry.value.unread ≡ []
  says : wait_of (told_recv (cond (is_at_end entry.value.end) got.End (nothing_read entry.value.end.state))) ≡ Some why

pub not_open : (c : GuestCall) (s : DriverState) → Stops c waits.NotOpen s → NotLive s
not_open c s stops = grind (arith, common_steps)

pub record IsReceive (c : GuestCall) (s : DriverState) : Type 0 where
  pub id : ℕ
  pub n : ℕ
  pub call : c ≡ call.Recv id n
  pub none : HasNoneUnread id s

pub empty_call : (c : GuestCall) (s : DriverState) → Stops c waits.Empty s → IsReceive c s
empty_call c s stops = grind (arith, common_steps)

-- A send that lacks credit.
pub record IsSend (c : GuestCall) (s : DriverState) : Type 0 where
  pub id : ℕ
  pub bytes : List ℕ
  pub call : c ≡ call.Send id bytes
  pub says : SaysToSend id (Ok 0) s

pub credit_call : (c : GuestCall) (s : DriverState) (tx alloc fwd : ℕ) → Stops c (waits.NoCredit tx alloc fwd) s → IsSend c s
credit_call c s tx alloc fwd stops = grind (arith, common_steps)

-- A send and a receive name the connection that the app is at.
pub send_id : (act : Act) (p : Progress) (id : ℕ) (bytes : List ℕ) → last_of (calls_next act p) ≡ Some (call.Send id bytes) → id_of p ≡ id
send_id act p id bytes last = grind (arith, common_steps)

pub recv_id : (act : Act) (p : Progress) (id n : ℕ) → last_of (calls_next act p) ≡ Some (call.Recv id n) → id_of p ≡ id
recv_id act p id n last = grind (arith, common_steps)
