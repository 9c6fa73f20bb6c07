use Rattle.std.proofs.Common.{subst}
use Rattle.vs_script.specs.Script.{parse_of}
use Rattle.vs_script.specs.declared.script.Command.TheVariants as command
use Rattle.vs_run.specs.{Ends.Read, Runs.EndsRun}
use Rattle.vs_run.proofs.run.run_script.Goals as goal

pub returns-in-Ok : goal.returns-in-Ok
returns-in-Ok g c =
    Read c.in-Ok.bytes.items c.in-Ok.ensures.bytes c.in-Ok.ensures.faults
    (subst (λ bytes. EndsRun c.args.base.now c.args.idle c.args.first (g.H.HostNet.contents c.args.host.now) (g.H.HostNet.contents c.run_bytes.new.host)
    (g.H.HostNet.faults c.args.host.now) (g.H.HostNet.faults c.run_bytes.new.host) (g.K.Sink.contents c.args.out.now)
    (g.K.Sink.contents c.run_bytes.new.out) (g.K.Sink.faults c.args.out.now) (g.K.Sink.faults c.run_bytes.new.out) c.run_bytes.result
    (parse_of command.Run bytes)) c.deref.ensures.value c.run_bytes.ensures)
