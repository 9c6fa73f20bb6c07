-- What the call of an app does.
use Rattle.std.specs.Prelude.{◌≡◌, ℕ, ◌≤◌, List, ◌++◌, length}
use Rattle.vs_contents.specs.CallTree.{Done}
use Rattle.vs_ring_port.specs.Contents.{RingContents}
use Rattle.vs_driver_parts.specs.{Connections.got_count, State.DriverState, declared.answers.Received.Received}
use Rattle.laws_driver.specs.Carried.Calls.{GuestCall, Made, ReplyTo, makes_call}
use Rattle.vs_apps_parts.specs.{Journals.made_as, Scripts.{RunScript, calls_in, told_in}, Sums.JournalState, Told.told_by, declared.journal.Entry.Entry}
use Rattle.vs_apps_parts.specs.declared.{progress.AppState.AppState, told.Told.Told}
use Rattle.laws_apps.specs.Runs.{MakesCall, MakesCalls, Run}
use Rattle.laws_driver.specs.Carried.Calls as call

abbrev pub run_with : DriverState → RingContents → List AppState → List Entry → List ℕ → Run
run_with driver ring apps entries bytes = record { driver = driver; ring = ring; apps = apps; entries = entries; bytes = bytes }

-- It is made and noted, and told this.
abbrev pub CallsAs : RunScript → ℕ → GuestCall → Told → Run → Run → Type 0
CallsAs script k call told old new = (reply : ReplyTo call) × (told ≡ told_by call reply) × MakesCall script k (made_as call reply) old new

-- A receive gives bytes that come behind others.
abbrev pub Receives : ℕ → ℕ → DriverState → DriverState → Received → List ℕ → List ℕ → Type 0
Receives id n s t r old new = (more : List ℕ) × (length more ≡ got_count r) × (new ≡ old ++ more)
    × (makes_call (call.Recv id n) s ≡ Done (t, (r, more)))

-- A run's journal, with room for so many calls and waits more.
abbrev pub run_of : DriverState → RingContents → List AppState → JournalState → Run
run_of driver ring apps journal = run_with driver ring apps journal.entries journal.bytes

abbrev pub HasRoom : ℕ → JournalState → Type 0
HasRoom n journal = n ≤ journal.room

-- Calls are made and noted, one after another, and told this.
pub record MakesAll (script : RunScript) (k : ℕ) (calls : List GuestCall) (told : List Told) (old new : Run) : Type 0 where
  pub made : List Made
  pub are : calls_in made ≡ calls
  pub tell : told_in made ≡ told
  pub makes : MakesCalls script k made old new
