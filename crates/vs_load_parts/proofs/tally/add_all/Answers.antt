use Rattle.std.{proofs.{Common.{◌+◌, List, ap, length, nat_eq, sym, take}, lemmas.List.take_more}, specs.List.fold}
use Rattle.indexmap.specs.IndexMap.{get}
use Rattle.vs_apps_parts.specs.{Journals.calls_of, Scripts.script_of}
use Rattle.vs_run_report.specs.declared.connection.Opened.{Opened}
use Rattle.vs_load_parts.{specs.Line.{counts, no_tally}, proofs.{Once.{none_opened, tally_next}, Tallies.counts_free}}
use Rattle.vs_load_parts.proofs.tally.add_all.Goals as goal

pub loop-entry-init : goal.loop-entry-init
loop-entry-init c =
    let script = script_of c.args.script.now in
    let journal = calls_of script c.args.journal.now.bytes c.args.journal.now.entries in
    sym (ap (λ (xs : List Opened). fold (counts (get nat_eq c.args.sent.now) journal) no_tally xs) (none_opened 0 (length script)))

pub loop-entry-preserved : goal.loop-entry-preserved
loop-entry-preserved c =
    let i = c.loop-entry.entry-index in
    let script = script_of c.args.script.now in
    let journal = calls_of script c.args.journal.now.bytes c.args.journal.now.entries in
    let sent = get nat_eq c.args.sent.now in
    tally_next (counts sent journal) (counts_free journal sent) no_tally c.loop-entry.tally _ (length script) (take i c.args.entries.now)
    (take (i + 1) c.args.entries.now) _ (take_more c.args.entries.now i _ c.loop-entry-test.true) c.loop-entry.invariant c.add_entry-tally.ensures
