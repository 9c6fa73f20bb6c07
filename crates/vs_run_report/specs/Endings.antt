-- How each app of a run ended, as it is printed.
use Rattle.std.specs.Prelude.{ℕ, ◌+◌, nat_lt, if◌then◌else◌, Bool, true, false, List, ◌++◌, codes, decimal, slice_get, slice_index_or, Option, Some, None}
use Rattle.vs_apps_parts.specs.{Scripts.begun, declared.{journal.{Entry.Entry, WaitsFor.WaitsFor}, progress.AppState.AppState}}
use Rattle.vs_run_report.specs.declared.ending.Ending.{Ending}
use Rattle.vs_apps_parts.specs.declared.journal.Deed.TheVariants as deed
use Rattle.vs_apps_parts.specs.declared.journal.WaitsFor.TheVariants as waits
use Rattle.vs_run_report.specs.declared.ending.Ending.TheVariants as ending

-- The word for what an app waits for.
abbrev pub why_text : WaitsFor → List ℕ
why_text waits.Full = codes "full"
why_text (waits.NoDescriptor in_flight) = codes "no descriptor"
why_text (waits.NoCredit tx alloc fwd) = codes "no credit"
why_text waits.Empty = codes "empty"
why_text waits.NoneWaiting = codes "none"
why_text waits.NotOpen = codes "not open"

-- What the entry at a place waits for, where there is one that waits.
abbrev pub why_in : Entry → Option WaitsFor
why_in e = elim e.deed [ deed.Called c ↦ None | deed.Waited times why ↦ Some why ]

abbrev pub why_at : Option ℕ → List Entry → Option WaitsFor
why_at None entries = None
why_at (Some place) entries = elim (slice_get entries place) [ None ↦ None | Some e ↦ why_in e ]

-- How an app of so many instructions ended: all are done; or its last entry waits, at the instruction of this number, counted from 1. An app
-- that goes on is at no end.
abbrev pub ending_at : ℕ → Option WaitsFor → Ending
ending_at number (Some why) = ending.Waited why number
ending_at number None = ending.GoesOn number

abbrev pub ending_of : ℕ → AppState → List Entry → Ending
ending_of count state entries =
    if nat_lt state.progress.at count then ending_at (state.progress.at + 1) (why_at state.waiting entries) else ending.Done

abbrev pub is_done : Ending → Bool
is_done ending.Done = true
is_done (ending.Waited why at) = false
is_done (ending.GoesOn at) = false

-- The state of an app by its place.
abbrev pub state_at : ℕ → List AppState → AppState
state_at k apps = slice_index_or apps k (record { progress = begun; waiting = None })

-- The line of the app of this number, counted from 1, where an app gave up after so many steps that waited.
abbrev pub ending_text : ℕ → Ending → List ℕ
ending_text idle ending.Done = codes " done\n"
ending_text idle (ending.Waited why at) =
    codes " waited " ++ decimal idle ++ codes " " ++ why_text why ++ codes " at " ++ decimal at ++ codes "\n"
ending_text idle (ending.GoesOn at) = codes " goes on at " ++ decimal at ++ codes "\n"

abbrev pub app_text : ℕ → ℕ → Ending → List ℕ
app_text idle number e = codes "app " ++ decimal number ++ ending_text idle e
