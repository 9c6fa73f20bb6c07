-- The report of a run, line by line, each with its LF.
use Rattle.std.specs.{Prelude.{ℕ, ◌+◌, if◌then◌else◌, List, [], ◌∷◌, ◌++◌, length, map, Some}, List.range_with_len}
use Rattle.vs_apps_parts.specs.{Journals.calls_of, Scripts.{RunScript, acts_of}, declared.{journal.Entry.Entry, progress.AppState.AppState}}
use Rattle.vs_report.specs.{Report.counts_text, Report.device_open_text, Report.guest_open_text, declared.giving.Totals.Totals}
use Rattle.vs_run_report.specs.{Connections.{opened_all, opened_text}, Endings.{app_text, ending_of, is_done, state_at}}
use Rattle.vs_run_report.specs.{declared.report.TheConstants.WAITED, declared.ending.Ending.Ending}

-- How the app at a place ended, and its line.
abbrev pub ended_at : RunScript → List AppState → List Entry → ℕ → Ending
ended_at script apps entries k = ending_of (length (acts_of k script)) (state_at k apps) entries

abbrev pub app_line : ℕ → RunScript → List AppState → List Entry → ℕ → List ℕ
app_line idle script apps entries k = app_text idle (k + 1) (ended_at script apps entries k)

-- Those of all apps; then each connection of each app; then how many entries the tables have; and last what was counted. `idle` is after how
-- many steps that waited an app gave up.
abbrev pub app_lines : ℕ → RunScript → List AppState → List Entry → List (List ℕ)
app_lines idle script apps entries = map (app_line idle script apps entries) (range_with_len 0 (length script))

abbrev pub connection_lines : RunScript → List Entry → List ℕ → List (List ℕ)
connection_lines script entries bytes = map (opened_text (calls_of script bytes entries)) (opened_all (length script) entries)

abbrev pub total_lines : Totals → List (List ℕ)
total_lines t = guest_open_text t.guest_open ∷ device_open_text t.device_open ∷ counts_text t.counters (Some t.broken) ∷ []

abbrev pub run_texts : ℕ → RunScript → List AppState → List Entry → List ℕ → Totals → List (List ℕ)
run_texts idle script apps entries bytes t =
    app_lines idle script apps entries ++ (connection_lines script entries bytes ++ total_lines t)

-- The status: 0, or 5 where an app isn't done.
abbrev pub status_after : ℕ → Ending → ℕ
status_after status e = if is_done e then status else WAITED

abbrev pub status_of : List Ending → ℕ
status_of [] = 0
status_of (e ∷ es) = status_after (status_of es) e

abbrev pub run_status : RunScript → List AppState → List Entry → ℕ
run_status script apps entries = status_of (map (ended_at script apps entries) (range_with_len 0 (length script)))
