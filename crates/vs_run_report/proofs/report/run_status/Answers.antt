use Rattle.vs_apps_parts.specs.Scripts.{script_of}
use Rattle.vs_run_report.{specs.Report.ended_at, proofs.Lines.status_next}
use Rattle.vs_run_report.proofs.report.run_status.Goals as goal

pub loop-k-preserved : goal.loop-k-preserved
loop-k-preserved c =
    status_next (ended_at (script_of c.args.script.now) c.args.apps.now c.args.entries.now) c.loop-k.k c.loop-k.status c.status_after-status.result
    c.ended_at.result c.loop-k.invariant c.ended_at.ensures c.status_after-status.ensures
