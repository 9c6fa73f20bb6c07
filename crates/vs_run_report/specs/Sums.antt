-- How many bytes one entry of a journal adds to what was sent on a connection.
use Rattle.std.specs.{Prelude.{ℕ, ◌-◌, ◌==◌, min, if◌then◌else◌, length, Option, Some, None}, Option.unwrap_or}
use Rattle.vs_apps_parts.specs.{Journals.data_at, Scripts.{RunScript, acts_of}, declared.journal.{Called.Called, Entry.Entry}}
use Rattle.vs_apps_parts.specs.declared.journal.Called.TheVariants as called
use Rattle.vs_apps_parts.specs.declared.journal.Deed.TheVariants as deed
use Rattle.vs_driver_parts.specs.declared.answers.Sent.{Sent}
use Rattle.vs_run_report.specs.declared.sums.Portion.{Portion}
use Rattle.vs_driver_parts.specs.declared.answers.Sent.TheVariants as sent

-- How many bytes a send of so many took.
abbrev pub took_number : ℕ → Sent → ℕ
took_number len (sent.Took n) = min n len
took_number len answer = 0

-- On which connection a call sent, and how many bytes.
abbrev pub sent_in : RunScript → ℕ → Called → Option Portion
sent_in script app (called.Send id at from len answer) =
    Some (record { id = id; count = took_number (min len (length (data_at at (acts_of app script)) - from)) answer })
sent_in script app c = None

abbrev pub sent_by : RunScript → Entry → Option Portion
sent_by script e = elim e.deed [ deed.Called c ↦ sent_in script e.app c | deed.Waited times why ↦ None ]

-- How many of these bytes were sent on one connection.
abbrev pub amount_on : ℕ → Option Portion → ℕ
amount_on id None = 0
amount_on id (Some p) = if id == p.id then p.count else 0

-- The count that is kept of a connection, if one is.
abbrev pub count_of : Option ℕ → ℕ
count_of o = unwrap_or o 0
