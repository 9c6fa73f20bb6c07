use Rattle.std.{proofs.Common.{◌≡◌, length, nat_eq, take}, specs.List.fold}
use Rattle.indexmap.specs.IndexMap.{get}
use Rattle.vs_apps_parts.specs.{Journals.calls_of, Scripts.script_of}
use Rattle.vs_run_report.specs.Connections.{opened_all}
use Rattle.vs_load_parts.specs.Line.{counts, no_tally}
use Rattle.vs_load_parts.proofs.tally.add_all.Given as goal

-- the connections of the entries so far
abbrev pub invariant-loop-entry : goal.invariant-loop-entry
invariant-loop-entry l = l.tally
    ≡ fold (counts (get nat_eq l.sent) (calls_of (script_of l.script) l.journal.bytes l.journal.entries)) no_tally
    (opened_all (length (script_of l.script)) (take l.entry-index l.entries))
