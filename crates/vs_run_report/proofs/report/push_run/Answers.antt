use Rattle.std.proofs.Common.{◌++◌, ◌∙◌, List, ap, string_bytes}
use Rattle.vs_apps_parts.specs.{Scripts.script_of, declared.journal.Entry.Entry}
use Rattle.vs_report.specs.Gives.{joined}
use Rattle.vs_run_report.{specs.Report.{app_lines, connection_lines, total_lines}, proofs.Lines.ok_parts}
use Rattle.vs_run_report.proofs.report.push_run.Goals as goal

pub returns : goal.returns
returns c =
    let script = script_of c.args.script.now in
    let journal = c.args.journal.now in
    let old = string_bytes c.args.out.now in
    ok_parts c.push_totals.result old (string_bytes c.push_apps.new.out) (string_bytes c.push_connections.new.out) (string_bytes c.push_totals.new.out)
    (app_lines c.args.idle script c.args.apps.now journal.entries) (connection_lines script journal.entries journal.bytes) (total_lines c.args.totals.now)
    (c.in_ok-push_apps.ensures ∙ ap (λ (es : List Entry). old ++ joined (app_lines c.args.idle script c.args.apps.now es)) c.entries.ensures)
    c.in_ok-push_connections.ensures c.push_totals.ensures
