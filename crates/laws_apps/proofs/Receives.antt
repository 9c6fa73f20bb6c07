-- A receive, made and noted.
use Rattle.std.proofs.lemmas.Grind.{common_steps}
use Rattle.std.proofs.Common.{◌≡◌, ℕ, ◌≤◌, arith, List, length}
use Rattle.vs_ring_port.specs.Contents.{RingContents}
use Rattle.vs_driver_parts.specs.State.{DriverState}
use Rattle.vs_driver_parts.specs.{Connections.{recv_of, got_count}, declared.answers.Received.Received}
use Rattle.vs_apps_parts.specs.{Journals.{called_noted, made_of}, Scripts.RunScript, Told.{wait_of, told_of}, declared.journal.Called.Called}
use Rattle.vs_apps_parts.specs.declared.{journal.Entry.Entry, progress.AppState.AppState, told.Told.Told}
use Rattle.laws_apps.specs.Calls.{CallsAs, Receives, run_with}
use Rattle.laws_driver.specs.Carried.Calls as call
use Rattle.vs_apps_parts.specs.declared.journal.Called.TheVariants as called

-- A receive gives no more bytes than its buffer holds.
pub recv_few : (id n : ℕ) (s : DriverState) → got_count (recv_of id n s) ≤ n
recv_few id n s = grind (arith, common_steps)

-- A receive: its bytes come behind those of the journal.
module _ (script : RunScript) (k id n from : ℕ) (s t : DriverState) (r : Received) (old new : List ℕ) (gives : Receives id n s t r old new) (behind : from ≡ length old)
    (before after : List Entry) (told : Told) where
  abbrev here : Called
  here = called.Recv id n from r

  pub recv_as : (c : RingContents) (apps : List AppState) → told ≡ told_of (made_of script new k here) → after ≡ called_noted k here (wait_of told) before
      → CallsAs script k (call.Recv id n) told (run_with s c apps before old) (run_with t c apps after new)
  recv_as c apps says noted = grind (arith, common_steps)
