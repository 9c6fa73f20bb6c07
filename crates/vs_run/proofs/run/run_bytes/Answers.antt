use Rattle.std.proofs.Common.{refl}
use Rattle.vs_script.specs.Script.{parse_of}
use Rattle.vs_run.{specs.Runs.EndsRun, proofs.{Causes.unparsed, Ran.run_starved}}
use Rattle.vs_script.specs.declared.script.Command.TheVariants as command
use Rattle.vs_run.proofs.run.run_bytes.Goals as goal

pub returns-in-Err : goal.returns-in-Err
returns-in-Err g c =
    unparsed command.Run
    (EndsRun c.args.base.now c.args.idle c.args.first (g.H.HostNet.contents c.args.host.now) (g.H.HostNet.contents c.args.host.now) (g.H.HostNet.faults c.args.host.now)
    (g.H.HostNet.faults c.args.host.now) (g.K.Sink.contents c.args.out.now) (g.K.Sink.contents c.refused.new.out)
    (g.K.Sink.faults c.args.out.now) (g.K.Sink.faults c.refused.new.out) c.refused.result)
    c.args.bytes.now (g.K.Sink.contents c.args.out.now) (g.K.Sink.contents c.refused.new.out) (g.K.Sink.faults c.args.out.now)
    (g.K.Sink.faults c.refused.new.out) c.refused.result c.in-Err.fault (λ x w. (w, (refl, refl)))
    (run_starved c.args.base.now c.args.idle c.args.first (g.H.HostNet.contents c.args.host.now) (g.H.HostNet.faults c.args.host.now) (g.K.Sink.contents c.args.out.now)
    (g.K.Sink.contents c.refused.new.out) (g.K.Sink.faults c.args.out.now) (g.K.Sink.faults c.refused.new.out) c.refused.result
    (parse_of command.Run c.args.bytes.now)) c.in-Err.ensures.refused c.refused.ensures
