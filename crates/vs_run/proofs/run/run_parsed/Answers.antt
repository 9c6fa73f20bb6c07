use Rattle.std.proofs.Common.{Ok, subst, sym}
use Rattle.vs_script.specs.Script.{script_view}
use Rattle.vs_run.specs.Runs.{EndsRun}
use Rattle.vs_run.proofs.run.run_parsed.Goals as goal

pub returns-in-Run : goal.returns-in-Run
returns-in-Run g c =
    subst (λ script. EndsRun c.args.base.now c.args.idle c.args.first (g.H.HostNet.contents c.args.host.now) (g.H.HostNet.contents c.run_apps.new.host)
    (g.H.HostNet.faults c.args.host.now) (g.H.HostNet.faults c.run_apps.new.host) (g.K.Sink.contents c.args.out.now)
    (g.K.Sink.contents c.run_apps.new.out) (g.K.Sink.faults c.args.out.now) (g.K.Sink.faults c.run_apps.new.out) c.run_apps.result
    (Ok (script_view script))) (sym c.in-Run.is) c.run_apps.ensures
