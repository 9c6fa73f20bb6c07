-- Bounds of a complete run: what was sent at least on a connection, by the instructions that its app carried out there; and what became of one that was closed.
use Rattle.std.specs.Prelude.{◌≡◌, ℕ, ◌+◌, ◌<◌, ◌≤◌, ◌==◌, ◌&&◌, ◌||◌, not, nat_lt, Bool, true, false, if◌then◌else◌, List, [], ◌∷◌, ◌++◌, length, slice_get, Some, None, is_some}
use Rattle.std.specs.{Prelude.take, List.list_any}
use Rattle.vs_flow.specs.Connection.{Connection}
use Rattle.vs_outside.specs.{Host.HostContents, HostBytes.host_wrote}
use Rattle.vs_script.specs.{App.{Accept, Act, Connect, Drain, Exchange, Recv, Send}, Data.size_of}
use Rattle.laws_driver.specs.Carried.Calls.{Close, GuestCall, Journal, Made, ReplyTo, names, received_by}
use Rattle.vs_apps_parts.specs.{Journals.{calls_of, calls_of_app, gathered, made_by, sent_as}, Scripts.{Follows, RunScript, acts_of, after_step, all_noted, begun, told_in}}
use Rattle.vs_apps_parts.specs.{Told.told_of, declared.{journal.Entry.Entry, progress.{AppState.AppState, Progress.Progress}, told.Told.Told}}
use Rattle.laws_apps.specs.{Placed.{accepted_as, asked_as}, Traces.is_shut}
use Rattle.vs_run_report.specs.{Connections.opened_of, Endings.state_at}
use Rattle.laws_settled.specs.Shut.{GivesNoMore}
use Rattle.laws_run.specs.Dry.{IsFull, OfOpen, stream_open}
use Rattle.laws_driver.specs.Carried.Calls as call
use Rattle.vs_apps_parts.specs.declared.told.Told.TheVariants as told

-- How many bytes an instruction names, by kinds: a send's, an exchange's, and those to be received; and all of a list.
abbrev pub sent_by : Act → ℕ
sent_by (Send c) = size_of c
sent_by act = 0

abbrev pub exchanged_by : Act → ℕ
exchanged_by (Exchange c) = size_of c
exchanged_by act = 0

abbrev pub received_in : Act → ℕ
received_in (Recv n) = n
received_in (Exchange c) = size_of c
received_in act = 0

abbrev pub is_drain : Act → Bool
is_drain Drain = true
is_drain act = false

abbrev pub total : (Act → ℕ) → List Act → ℕ
total size [] = 0
total size (act ∷ acts) = size act + total size acts

-- Where steps of an app lead, the newest first.
abbrev pub step_on : List Act → List Made → Progress → Progress
step_on acts ms p = elim (slice_get acts p.at) [ None ↦ p | Some act ↦ after_step act (told_in ms) p ]

abbrev pub went : List Act → List (List Made) → Progress
went acts [] = begun
went acts (ms ∷ steps) = step_on acts ms (went acts steps)

-- The app is at this connection, and by its calls so far it shut no direction of it, and didn't close it.
abbrev pub is_at : ℕ → Progress → Journal → Bool
is_at id p journal = names id p.conn && not (is_shut id journal)

-- The instruction that a step was the last of; and those that steps were the last of on a connection, while the app was there so.
abbrev pub done_by : List Act → List Made → Progress → List Act
done_by acts ms p = elim (slice_get acts p.at) [ None ↦ [] | Some act ↦ if nat_lt p.at (after_step act (told_in ms) p).at then act ∷ [] else [] ]

abbrev pub done_at : ℕ → List Act → List (List Made) → List Act
done_at id acts [] = []
done_at id acts (ms ∷ steps) =
    let p = went acts steps in done_at id acts steps ++ (if is_at id p (all_noted steps) then done_by acts ms p else [])

-- The calls of all other apps.
abbrev pub made_by_others : ℕ → RunScript → List ℕ → Entry → Journal
made_by_others k script bytes e = if e.app == k then [] else made_by script bytes e

abbrev pub calls_of_others : ℕ → RunScript → List ℕ → List Entry → Journal
calls_of_others k script bytes es = gathered (made_by_others k script bytes) es

-- The proxy hasn't closed the connection's stream, and the host's program hasn't either: no write of it was answered Closed.
abbrev pub TakesOn : Connection → HostContents → Type 0
TakesOn c h = (stream_open c h ≡ true) × OfOpen c h (λ s. s.host_closed ≡ false)

-- It ended the open stream of the id's connection, nothing is left to be taken, and all that was taken was received on the id, unless a call shut that.
abbrev pub HasEnd : (ℕ → Connection) → Journal → HostContents → ℕ → Type 0
HasEnd opened journal h id =
    (is_shut id journal ≡ false → received_by id journal ≡ host_wrote (opened id) h) × OfOpen (opened id) h GivesNoMore

-- Whether a send on an id was over, whatever it moved, before a call shut the id; and whether a receive was.
abbrev pub is_over : Told → Bool
is_over told.Ends = true
is_over t = false

abbrev pub sends_on : ℕ → GuestCall → Bool
sends_on id (call.Send other bytes) = other == id
sends_on id c = false

abbrev pub receives_on : ℕ → GuestCall → Bool
receives_on id (call.Recv other n) = other == id
receives_on id c = false

abbrev pub was_over : (GuestCall → Bool) → ℕ → Journal → Bool
was_over on id [] = false
was_over on id (m ∷ older) = (on m.call && (is_over (told_of m) && not (is_shut id older))) || was_over on id older

abbrev pub is_cut : ℕ → Journal → Bool
is_cut id journal = was_over (sends_on id) id journal

abbrev pub early : ℕ → Journal → Bool
early id journal = was_over (receives_on id) id journal

-- An instruction that is to open a connection; and how many calls of a journal were to, and opened none.
abbrev pub opens : Act → ℕ
opens (Connect port) = 1
opens (Accept port) = 1
opens act = 0

abbrev pub is_refusal : (call : GuestCall) → ReplyTo call → Bool
is_refusal (call.Connect port) reply = not (is_some (asked_as reply))
is_refusal (call.Accept port) reply = not (is_some (accepted_as reply))
is_refusal c reply = false

abbrev pub refusals : Journal → ℕ
refusals [] = 0
refusals (m ∷ older) = (if is_refusal m.call m.reply then 1 else 0) + refusals older

-- The calls of an app are, in order, its instructions. It has a line for each connect and each accept that it carried out, but for those whose call was
-- refused. On each connection that no other app shut at least so much was sent as the sends name that the app carried out there before it shut a direction of
-- it, or closed it, unless a send was over before that; its exchanges count too, and at least so much was received as its receives and exchanges name, unless
-- a receive was, as where it was drained.
pub record HasBounds (acts : List Act) (k : ℕ) (script : RunScript) (bytes : List ℕ) (entries : List Entry) (p : Progress) : Type 0 where
  pub steps : List (List Made)
  pub follows : Follows acts begun steps p
  pub noted : all_noted steps ≡ calls_of_app k script bytes entries
  pub lines : total opens (take p.at acts) ≤ length (opened_of k entries) + refusals (calls_of_app k script bytes entries)
  pub sends : (id : ℕ) → is_shut id (calls_of_others k script bytes entries) ≡ false → is_cut id (calls_of script bytes entries) ≡ false
      → total sent_by (done_at id acts steps) ≤ length (sent_as id (calls_of script bytes entries))
  pub exchanges : (id : ℕ) → is_shut id (calls_of_others k script bytes entries) ≡ false → is_cut id (calls_of script bytes entries) ≡ false
      → early id (calls_of script bytes entries) ≡ false
      → total (λ act. sent_by act + exchanged_by act) (done_at id acts steps) ≤ length (sent_as id (calls_of script bytes entries))
  pub receives : (id : ℕ) → is_shut id (calls_of_others k script bytes entries) ≡ false → is_cut id (calls_of script bytes entries) ≡ false
      → early id (calls_of script bytes entries) ≡ false
      → total received_in (done_at id acts steps) ≤ length (received_by id (calls_of script bytes entries))
  pub drains : (id : ℕ) → is_shut id (calls_of_others k script bytes entries) ≡ false → list_any is_drain (done_at id acts steps) ≡ true
      → early id (calls_of script bytes entries) ≡ true

-- A close: the stream of the connection whose id was closed takes nothing now, unless the proxy closed it.
abbrev pub IsShutDown : (ℕ → Connection) → HostContents → GuestCall → Type 0
IsShutDown opened h (Close id) = 1 ≤ (opened id).number → OfOpen (opened id) h IsFull
IsShutDown opened h call = Unit {0}

abbrev pub AreShutDown : (ℕ → Connection) → HostContents → Journal → Type 0
AreShutDown opened h [] = Unit {0}
AreShutDown opened h (m ∷ older) = IsShutDown opened h m.call × AreShutDown opened h older

-- No send was over so on a connection whose stream takes on; and where a receive was, of one whose stream the proxy hasn't closed, that came to its end.
pub record IsBounded (script : RunScript) (apps : List AppState) (entries : List Entry) (bytes : List ℕ) (opened : ℕ → Connection) (h : HostContents)
    : Type 0 where
  pub bounds : (k : ℕ) → k < length script → HasBounds (acts_of k script) k script bytes entries (state_at k apps).progress
  pub uncut : (id : ℕ) → 1 ≤ (opened id).number → TakesOn (opened id) h → is_cut id (calls_of script bytes entries) ≡ false
  pub ended : (id : ℕ) → 1 ≤ (opened id).number → stream_open (opened id) h ≡ true → early id (calls_of script bytes entries) ≡ true
      → HasEnd opened (calls_of script bytes entries) h id
  pub closes : AreShutDown opened h (calls_of script bytes entries)
