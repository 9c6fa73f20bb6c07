use Rattle.std.proofs.Common.{string_bytes}
use Rattle.vs_apps_parts.specs.Scripts.{script_of}
use Rattle.vs_run_report.{specs.Report.app_line, proofs.Lines.line_next}
use Rattle.vs_run_report.proofs.report.push_apps.Goals as goal

pub loop-k-preserved : goal.loop-k-preserved
loop-k-preserved c =
    line_next (string_bytes c.args.out.now) (string_bytes c.loop-k.out) (string_bytes c.push_app_at.new.out)
    (app_line c.args.idle (script_of c.args.script.now) c.args.apps.now c.args.entries.now) c.loop-k.k c.loop-k.invariant
    c.in_ok-push_app_at.ensures
