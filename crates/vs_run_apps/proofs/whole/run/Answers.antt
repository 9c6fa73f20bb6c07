use Rattle.std.proofs.Common.{◌≡◌, Err, Ok}
use Rattle.vs_outside.specs.Host.{HostContents, start_answer}
use Rattle.vs_apps_parts.specs.Scripts.{script_of}
use Rattle.vs_run_apps.proofs.Rights.{reports_before}
use Rattle.vs_run_apps.proofs.whole.run.Goals as goal

pub returns-in-Ok : goal.returns-in-Ok
returns-in-Ok g c =
    reports_before c.args.base.now (g.H.HostNet.contents c.args.host.now) (g.H.HostNet.contents c.start.new.self) (λ (h : HostContents). c.start.result ≡ start_answer h)
    (g.H.HostNet.faults c.args.host.now) (g.H.HostNet.faults c.start.new.self) c.start.ensures.exact c.in-Ready.ensures.counts c.args.first (script_of c.args.script.items)
    (g.H.HostNet.contents c.run_started.new.host) (g.H.HostNet.faults c.run_started.new.host) c.args.idle (g.K.Sink.contents c.args.out.now)
    (g.K.Sink.contents c.run_started.new.out) (g.K.Sink.faults c.args.out.now) (g.K.Sink.faults c.run_started.new.out) (Ok c.in-Ok.status) c.in-Ok.ensures

pub returns-in-Err : goal.returns-in-Err
returns-in-Err g c =
    reports_before c.args.base.now (g.H.HostNet.contents c.args.host.now) (g.H.HostNet.contents c.start.new.self) (λ (h : HostContents). c.start.result ≡ start_answer h)
    (g.H.HostNet.faults c.args.host.now) (g.H.HostNet.faults c.start.new.self) c.start.ensures.exact c.in-Ready.ensures.counts c.args.first (script_of c.args.script.items)
    (g.H.HostNet.contents c.run_started.new.host) (g.H.HostNet.faults c.run_started.new.host) c.args.idle (g.K.Sink.contents c.args.out.now)
    (g.K.Sink.contents c.run_started.new.out) (g.K.Sink.faults c.args.out.now) (g.K.Sink.faults c.run_started.new.out) (Err c.in-Err.error) c.in-Err.ensures
