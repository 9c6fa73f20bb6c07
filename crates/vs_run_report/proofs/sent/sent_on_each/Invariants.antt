use Rattle.std.proofs.Common.{◌≡◌, ℕ, List, length, nat_eq, take}
use Rattle.indexmap.specs.IndexMap.{get}
use Rattle.vs_apps_parts.specs.{Journals.calls_of, Journals.sent_as, Scripts.script_of}
use Rattle.vs_run_report.specs.{Connections.capped, Sums.count_of}
use Rattle.vs_run_report.proofs.sent.sent_on_each.Given as goal

-- what the entries so far add up to
abbrev pub invariant-loop-entry : goal.invariant-loop-entry
invariant-loop-entry l = (bytes : List ℕ) (id : ℕ)
    → count_of (get nat_eq l.counts id) ≡ capped (length (sent_as id (calls_of (script_of l.script) bytes (take l.entry-index l.entries))))
