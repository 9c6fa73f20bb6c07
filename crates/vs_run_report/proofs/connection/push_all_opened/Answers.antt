use Rattle.std.proofs.{Common.{◌∙◌, ◌+◌, ◌++◌, Option, ap, map, string_bytes, take}, lemmas.List.take_more}
use Rattle.vs_apps_parts.specs.{Journals.calls_of, Scripts.script_of}
use Rattle.vs_report.specs.Gives.{joined}
use Rattle.vs_run_report.{specs.{Connections.{listed, opened_by, opened_text}, declared.connection.Opened.Opened}, proofs.Lines.lines_next}
use Rattle.vs_run_report.proofs.connection.push_all_opened.Goals as goal

pub loop-entry-preserved : goal.loop-entry-preserved
loop-entry-preserved c =
    let i = c.loop-entry.entry-index in
    let text = opened_text (calls_of (script_of c.args.script.now) c.args.journal.now.bytes c.args.journal.now.entries) in
    lines_next (string_bytes c.args.out.now) (string_bytes c.loop-entry.out) (string_bytes c.push_opened_by.new.out) text
    (λ e. listed (opened_by c.args.app e)) (take i c.args.entries.now) (take (i + 1) c.args.entries.now) _
    (take_more c.args.entries.now i _ c.loop-entry-test.true) c.loop-entry.invariant
    (c.in_ok-push_opened_by.ensures
    ∙ ap (λ (o : Option Opened). string_bytes c.loop-entry.out ++ joined (map text (listed o))) c.opened_by.ensures)
