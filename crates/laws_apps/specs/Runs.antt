-- A run of apps: the driver and its ring, the apps and the journal; what it keeps, and a step of an app.
use Rattle.std.specs.Prelude.{◌≡◌, ◌≤◌, ℕ, ◌<◌, ◌||◌, nat_lt, Bool, true, false, List, [], ◌∷◌, ◌++◌, length, Option, Some, None, slice_get, slice_index_or, slice_set}
use Rattle.vs_script.specs.App.{Act}
use Rattle.vs_ring_port.specs.Contents.{RingContents}
use Rattle.vs_driver_parts.specs.{Conversations.poll_of, Playing.Plays, State.DriverState, declared.answers.Polled.Polled}
use Rattle.laws_driver.specs.{Honest.IsHonestWith, Carried.Calls.{Journal, Made, bytes_received, flow_accepted, flow_opened, is_right, whole_call}}
use Rattle.vs_apps_parts.specs.{Journals.{AllStandIn, calls_of, calls_of_app, ends_at, entry_called, last_wait, made_as, made_of, wait_noted, wait_place}, Scripts.IsPlayed}
use Rattle.vs_apps_parts.specs.{Scripts.{RunScript, acts_of, after_step, begun, calls_in, calls_next, told_in}, Told.{step_wait, told_of, wait_of, waits_on}}
use Rattle.vs_apps_parts.specs.declared.{journal.{Called.Called, Entry.Entry, WaitsFor.WaitsFor}, progress.{AppState.AppState, Stepped.Stepped}}
use Rattle.laws_rest.specs.Rest.{IsRoutedWith}
use Rattle.laws_apps.specs.{Accounts.IsAccounted, Given.AreGivenWith, Placed.ArePlacedWith, Traces.IsTracedWith}
use Rattle.vs_apps_parts.specs.declared.progress.Stepped.TheVariants as stepped
use Rattle.vs_apps_parts.specs.declared.journal.Called.TheVariants as called

pub record Run : Type 0 where
  pub driver : DriverState
  pub ring : RingContents
  pub apps : List AppState
  pub entries : List Entry
  pub bytes : List ℕ

abbrev pub no_app : AppState
no_app = record { progress = begun; waiting = None }

abbrev pub app_at : ℕ → Run → AppState
app_at k run = slice_index_or run.apps k no_app

abbrev pub journal_of : RunScript → Run → Journal
journal_of script run = calls_of script run.bytes run.entries

abbrev pub journal_of_app : ℕ → RunScript → Run → Journal
journal_of_app k script run = calls_of_app k script run.bytes run.entries

-- Where an honest ring tells the log: the driver is the one that the log left, where this was the guest's CID at first; its packets go where
-- they belong, as long as all that it got come from the host; the journal's account is right, from the id 1 on, and tells the flows of ids; its
-- connections and listeners are those that the journal's calls left, are what the calls' replies tell, and were given once. Each entry is an app's of the script,
-- and has its connection's flow.
pub record IsKept (first : ℕ) (script : RunScript) (run : Run) : Type 0 where
  pub honest : IsHonestWith true first run.driver run.ring
  pub routed : IsRoutedWith first run.ring
  pub accounted : IsAccounted 1 (journal_of script run) run.entries run.driver run.ring
  pub stands : AllStandIn (length run.bytes) run.entries
  pub places : ArePlacedWith (length script) (journal_of script run) run.entries run.driver run.ring
  pub traced : IsTracedWith (journal_of script run) run.driver run.ring
  pub given : AreGivenWith (journal_of script run) run.driver run.ring

-- A run of a script: the calls of each app are, in order, its instructions; and each app knows whether its last entry is a wait.
pub record IsRunOf (first : ℕ) (script : RunScript) (run : Run) : Type 0 where
  pub apps : length run.apps ≡ length script
  pub kept : IsKept first script run
  pub follows : (k : ℕ) → k < length script
      → IsPlayed (acts_of k script) (journal_of_app k script run) (app_at k run).progress
  pub waits : (k : ℕ) → k < length script → (app_at k run).waiting ≡ last_wait k run.entries

-- The poll of a step, and whether it took or put anything.
pub record PollsTo (polled : Polled) (old mid : Run) : Type 0 where
  pub polls : Plays (poll_of old.driver) old.ring (mid.driver, polled) mid.ring
  pub rest : mid ≡ record old { driver = mid.driver; ring = mid.ring }

abbrev pub poll_moved : Polled → Bool
poll_moved polled = nat_lt 0 polled.took || (nat_lt 0 polled.posted || polled.reset)

-- An entry has the flow of the connection that was asked for or accepted.
abbrev pub HasFlow : Called → DriverState → Type 0
HasFlow (called.Connect port answer flow) s = flow ≡ flow_opened answer s
HasFlow (called.Accept port answer flow) s = flow ≡ flow_accepted answer s
HasFlow c s = Unit {0}

-- A call that told to wait is noted by nothing, each other one by an entry, with the bytes that it received.
abbrev pub NotesCall : RunScript → ℕ → Made → Option WaitsFor → Run → Run → Type 0
NotesCall script k m (Some why) old new = (new.entries ≡ old.entries) × (new.bytes ≡ old.bytes)
NotesCall script k m None old new = (c : Called) × (made_of script new.bytes k c ≡ m) × (ends_at c ≤ length new.bytes)
    × (new.entries ≡ old.entries ++ entry_called k c ∷ []) × (new.bytes ≡ old.bytes ++ bytes_received m.call m.reply) × HasFlow c new.driver

-- A call is made, with this reply, and noted.
pub record MakesCall (script : RunScript) (k : ℕ) (m : Made) (old new : Run) : Type 0 where
  pub right : is_right m.call ≡ true
  pub plain : m ≡ made_as m.call m.reply
  pub plays : Plays (whole_call m.call old.driver) old.ring (new.driver, m.reply) new.ring
  pub apps : new.apps ≡ old.apps
  pub notes : NotesCall script k m (wait_of (told_of m)) old new

abbrev pub MakesCalls : RunScript → ℕ → List Made → Run → Run → Type 0
MakesCalls script k [] old new = new ≡ old
MakesCalls script k (m ∷ ms) old new = (mid : Run) × MakesCall script k m old mid × MakesCalls script k ms mid new

-- An app's next instruction, its calls with their replies, and the run when they were made.
pub record CallsNext (script : RunScript) (k : ℕ) (mid : Run) : Type 0 where
  pub act : Act
  pub next : slice_get (acts_of k script) (app_at k mid).progress.at ≡ Some act
  pub made : List Made
  pub calls : calls_in made ≡ calls_next act (app_at k mid).progress
  pub over : Run
  pub makes : MakesCalls script k made mid over

-- What comes after the poll: the app goes on, or notes that it waits, or is done.
abbrev pub with_app : ℕ → AppState → Run → Run
with_app k state run = record run { apps = slice_set run.apps k state }

abbrev pub moved_state : Act → List Made → AppState → AppState
moved_state act made state = record { progress = after_step act (told_in made) state.progress; waiting = waits_on (told_in made) state.waiting }

pub record Moves (script : RunScript) (k : ℕ) (mid new : Run) : Type 0 where
  pub calls : CallsNext script k mid
  pub no_wait : step_wait (told_in calls.made) ≡ None
  pub moves : new ≡ with_app k (moved_state calls.act calls.made (app_at k mid)) calls.over

abbrev pub noted_wait : ℕ → WaitsFor → AppState → Run → Run
noted_wait k why state run = record (with_app k (record state { waiting = Some (wait_place k state.waiting run.entries) }) run) {
  entries = wait_noted k why state.waiting run.entries;
}

pub record Waits (script : RunScript) (k : ℕ) (why : WaitsFor) (mid new : Run) : Type 0 where
  pub calls : CallsNext script k mid
  pub waits : step_wait (told_in calls.made) ≡ Some why
  pub notes : new ≡ noted_wait k why (app_at k mid) calls.over

abbrev pub Acts : RunScript → ℕ → Stepped → Run → Run → Type 0
Acts script k stepped.Moved mid new = Moves script k mid new
Acts script k (stepped.Waiting why) mid new = Waits script k why mid new
Acts script k stepped.Done mid new = (slice_get (acts_of k script) (app_at k mid).progress.at ≡ None) × (new ≡ mid)
Acts script k stepped.OutOfMemory mid new = ⊥

-- A step of an app: nothing where memory is wanted; else a poll, and then its next calls.
abbrev pub Steps : RunScript → ℕ → Stepped → Bool → Run → Run → Type 0
Steps script k stepped.OutOfMemory moved old new = (moved ≡ false) × (new ≡ old)
Steps script k s moved old new = (polled : Polled) × (mid : Run) × PollsTo polled old mid × (moved ≡ poll_moved polled) × Acts script k s mid new
