-- The connections of a run's apps, as they are printed.
use Rattle.std.specs.Prelude.{ℕ, ◌-◌, ◌==◌, ◌^◌, min, if◌then◌else◌, List, [], ◌∷◌, ◌++◌, length, codes, decimal, Option, Some, None}
use Rattle.std.specs.{Prelude.{Result, Ok, Err}, List.{flat_map, range_with_len}}
use Rattle.vs_flow.specs.declared.flow.Flow.{Flow}
use Rattle.laws_driver.specs.Carried.Calls.{Journal, received_by}
use Rattle.vs_apps_parts.specs.{Journals.sent_as, declared.journal.{Called.Called, Entry.Entry}}
use Rattle.vs_apps_parts.specs.declared.journal.Called.TheVariants as called
use Rattle.vs_apps_parts.specs.declared.journal.Deed.TheVariants as deed
use Rattle.vs_driver_parts.specs.declared.answers.{Accepted.Accepted, ConnectError.ConnectError}
use Rattle.vs_driver_parts.specs.declared.answers.Accepted.TheVariants as accepted
use Rattle.vs_report.specs.Bytes.{counted_text}
use Rattle.vs_run_report.specs.declared.connection.Opened.{Opened}

-- The connection that a call opened.
abbrev pub opened_as : ℕ → Option Flow → Option Opened
opened_as id None = None
opened_as id (Some f) = Some (record { id = id; flow = f })

abbrev pub opened_by_connect : Result ℕ ConnectError → Option Flow → Option Opened
opened_by_connect (Ok id) flow = opened_as id flow
opened_by_connect (Err why) flow = None

abbrev pub opened_by_accept : Accepted → Option Flow → Option Opened
opened_by_accept (accepted.Conn id) flow = opened_as id flow
opened_by_accept accepted.None flow = None
opened_by_accept accepted.NotListening flow = None

abbrev pub opened_in : Called → Option Opened
opened_in (called.Connect port answer flow) = opened_by_connect answer flow
opened_in (called.Accept port answer flow) = opened_by_accept answer flow
opened_in c = None

-- The one that an entry of an app opened.
abbrev pub opened_by : ℕ → Entry → Option Opened
opened_by k e = if e.app == k then elim e.deed [ deed.Called c ↦ opened_in c | deed.Waited times why ↦ None ] else None

abbrev pub listed : Option Opened → List Opened
listed None = []
listed (Some o) = o ∷ []

-- All of an app, in the order in which it opened them; and those of all apps, app by app.
abbrev pub opened_of : ℕ → List Entry → List Opened
opened_of k entries = flat_map (λ e. listed (opened_by k e)) entries

abbrev pub opened_all : ℕ → List Entry → List Opened
opened_all count entries = flat_map (λ k. opened_of k entries) (range_with_len 0 count)

-- What a connection carried, by the journal: how many bytes were sent on it, where the count stands still at the last number of 64 bits, and
-- the bytes that were received on it.
pub record Carried : Type 0 where
  pub flow : Flow
  pub sent : ℕ
  pub received : List ℕ

abbrev pub capped : ℕ → ℕ
capped n = min n (2 ^ 64 - 1)

abbrev pub carried_by : Journal → Opened → Carried
carried_by journal o = record { flow = o.flow; sent = capped (length (sent_as o.id journal)); received = received_by o.id journal }

-- conn G H sent N received N DATA
abbrev pub connection_line : Flow → ℕ → List ℕ → List ℕ
connection_line flow sent received =
    codes "conn " ++ decimal flow.guest ++ codes " " ++ decimal flow.host ++ codes " sent " ++ decimal sent ++ codes " received " ++ received ++ codes "\n"

abbrev pub connection_text : Carried → List ℕ
connection_text c = connection_line c.flow c.sent (counted_text c.received)

abbrev pub opened_text : Journal → Opened → List ℕ
opened_text journal o = connection_text (carried_by journal o)
