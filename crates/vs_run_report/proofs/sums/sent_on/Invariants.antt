use Rattle.std.proofs.Common.{◌≡◌, ℕ, List, length, take}
use Rattle.vs_apps_parts.specs.{Journals.calls_of, Journals.sent_as, Scripts.script_of}
use Rattle.vs_run_report.specs.Connections.{capped}
use Rattle.vs_run_report.proofs.sums.sent_on.Given as goal

-- what the entries so far add up to
abbrev pub invariant-loop-entry : goal.invariant-loop-entry
invariant-loop-entry l =
    (bytes : List ℕ) → l.sent ≡ capped (length (sent_as l.id (calls_of (script_of l.script) bytes (take l.entry-index l.entries))))
