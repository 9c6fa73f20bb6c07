-- The journal: which calls on the driver its entries tell of, and what they sent and received.
use Rattle.std.specs.{Prelude.{ℕ, ◌+◌, ◌==◌, ◌≤◌, ◌-◌, ◌^◌, min, if◌then◌else◌, List, [], ◌∷◌, ◌++◌, length, Option, Some, None, slice_get, slice_set}, Option.unwrap_or}
use Rattle.vs_script.specs.{App.Act, Data.bytes_of}
use Rattle.vs_driver_parts.specs.Connections.{got_count}
use Rattle.laws_driver.specs.Carried.Calls.{GuestCall, Journal, Made, ReplyTo, bytes_sent, names}
use Rattle.vs_apps_parts.specs.{Scripts.{RunScript, acts_of, slice_of}, declared.journal.{Called.Called, Entry.Entry, WaitsFor.WaitsFor}}
use Rattle.vs_script.specs.App as act
use Rattle.laws_driver.specs.Carried.Calls as call
use Rattle.vs_apps_parts.specs.declared.journal.Called.TheVariants as called
use Rattle.vs_apps_parts.specs.declared.journal.Deed.TheVariants as deed

-- The connection that a call names by its id. Its flow is left to the id.
abbrev pub id_in : GuestCall → Option ℕ
id_in (call.Send id bytes) = Some id
id_in (call.Recv id n) = Some id
id_in (call.Shutdown id bits) = Some id
id_in (call.Grow id alloc) = Some id
id_in (call.Close id) = Some id
id_in (call.LookAt id) = Some id
id_in c = None

abbrev pub made_as : (c : GuestCall) → ReplyTo c → Made
made_as c reply = record { call = c; id = id_in c; flow = None; reply = reply }

-- The data of an instruction.
abbrev pub data_in : Act → List ℕ
data_in (act.Send c) = bytes_of c
data_in (act.Exchange c) = bytes_of c
data_in a = []

abbrev pub data_at : ℕ → List Act → List ℕ
data_at at acts = elim (slice_get acts at) [ None ↦ [] | Some a ↦ data_in a ]

-- An entry's call as one on the driver: what an app of a script sent stands in its instruction, and what it received in the journal's bytes.
abbrev pub made_of : RunScript → List ℕ → ℕ → Called → Made
made_of script bytes app (called.Connect port answer flow) = made_as (call.Connect port) answer
made_of script bytes app (called.Listen port answer) = made_as (call.Listen port) answer
made_of script bytes app (called.Accept port answer flow) = made_as (call.Accept port) answer
made_of script bytes app (called.Send id at from len answer) = made_as (call.Send id (slice_of from len (data_at at (acts_of app script)))) answer
made_of script bytes app (called.Recv id len from answer) =
    made_as (call.Recv id len) (answer, slice_of from (got_count answer) bytes)
made_of script bytes app (called.Shutdown id bits answer) = made_as (call.Shutdown id bits) answer
made_of script bytes app (called.Grow id alloc answer) = made_as (call.Grow id alloc) answer
made_of script bytes app (called.Close id answer) = made_as (call.Close id) answer
made_of script bytes app (called.LookAt id answer) = made_as (call.LookAt id) answer

abbrev pub made_by : RunScript → List ℕ → Entry → Journal
made_by script bytes e = elim e.deed [ deed.Called c ↦ made_of script bytes e.app c ∷ [] | deed.Waited times why ↦ [] ]

-- All calls of a journal, the newest first; and those of one app.
abbrev pub gathered : (Entry → Journal) → List Entry → Journal
gathered made [] = []
gathered made (e ∷ es) = gathered made es ++ made e

abbrev pub calls_of : RunScript → List ℕ → List Entry → Journal
calls_of script bytes es = gathered (made_by script bytes) es

abbrev pub made_by_app : ℕ → RunScript → List ℕ → Entry → Journal
made_by_app k script bytes e = if e.app == k then made_by script bytes e else []

abbrev pub calls_of_app : ℕ → RunScript → List ℕ → List Entry → Journal
calls_of_app k script bytes es = gathered (made_by_app k script bytes) es

-- What was sent on a connection, by its id. What was received there is `received_by`.
abbrev pub sent_as : ℕ → Journal → List ℕ
sent_as id [] = []
sent_as id (m ∷ older) = sent_as id older ++ (if names id m.id then bytes_sent m.call m.reply else [])

-- The bytes of a receive stand in the journal.
abbrev pub ends_at : Called → ℕ
ends_at (called.Recv id len from answer) = from + got_count answer
ends_at c = 0

abbrev pub StandsIn : ℕ → Entry → Type 0
StandsIn n e = elim e.deed [ deed.Called c ↦ ends_at c ≤ n | deed.Waited times why ↦ Unit {0} ]

abbrev pub AllStandIn : ℕ → List Entry → Type 0
AllStandIn n [] = Unit {0}
AllStandIn n (e ∷ es) = StandsIn n e × AllStandIn n es

-- An entry of an app.
abbrev pub entry_called : ℕ → Called → Entry
entry_called k c = record { app = k; deed = deed.Called c }

abbrev pub entry_waited : ℕ → ℕ → WaitsFor → Entry
entry_waited k times why = record { app = k; deed = deed.Waited times why }

-- A call that told to wait is noted by nothing, each other one by an entry.
abbrev pub called_noted : ℕ → Called → Option WaitsFor → List Entry → List Entry
called_noted k c None es = es ++ entry_called k c ∷ []
called_noted k c (Some why) es = es

-- The times of the wait that an app has at a place, if it has one there.
abbrev pub times_in : ℕ → Entry → Option ℕ
times_in k e = if e.app == k then elim e.deed [ deed.Called c ↦ None | deed.Waited times why ↦ Some times ] else None

abbrev pub times_at : ℕ → ℕ → List Entry → Option ℕ
times_at k place es = elim (slice_get es place) [ None ↦ None | Some e ↦ times_in k e ]

-- An app waits, whose last entry is a wait at this place if it is one: that entry has one more, or there is another. Its place.
abbrev pub one_more : ℕ → ℕ
one_more times = min (times + 1) (2 ^ 64 - 1)

abbrev pub waited_before : ℕ → Option ℕ → List Entry → Option ℕ
waited_before k None es = None
waited_before k (Some place) es = times_at k place es

abbrev pub wait_place : ℕ → Option ℕ → List Entry → ℕ
wait_place k last es = elim (waited_before k last es) [ None ↦ length es | Some times ↦ unwrap_or last 0 ]

abbrev pub wait_noted : ℕ → WaitsFor → Option ℕ → List Entry → List Entry
wait_noted k why last es = elim (waited_before k last es) [
  | None ↦ es ++ entry_waited k 1 why ∷ []
  | Some times ↦ slice_set es (unwrap_or last 0) (entry_waited k (one_more times) why)
]

-- The place of an app's last entry, where that is a wait.
abbrev pub waits_after : ℕ → ℕ → Option ℕ → Entry → Option ℕ
waits_after k place before e = if e.app == k then elim e.deed [ deed.Called c ↦ None | deed.Waited times why ↦ Some place ] else before

abbrev pub last_wait_from : ℕ → ℕ → Option ℕ → List Entry → Option ℕ
last_wait_from k place before [] = before
last_wait_from k place before (e ∷ es) = last_wait_from k (place + 1) (waits_after k place before e) es

abbrev pub last_wait : ℕ → List Entry → Option ℕ
last_wait k es = last_wait_from k 0 None es
