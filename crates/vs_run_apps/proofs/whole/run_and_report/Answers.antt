use Rattle.vs_run_apps.proofs.Told.{reported}
use Rattle.vs_run_apps.proofs.whole.run_and_report.Goals as goal

pub returns-in-Ok : goal.returns-in-Ok
returns-in-Ok g c =
    reported c.args.idle g.N.RunName.first g.N.RunName.script g.N.StartName.start c.in-Ok.ran.guests (record {
      proxy = c.in-Ok.ran.proxy;
      ring = c.in-Ok.ran.ring;
      contents = g.H.HostNet.contents c.run_under.new.host;
      faults = g.H.HostNet.faults c.run_under.new.host;
    }) c.in-Ok.ran.met (g.K.Sink.contents c.args.out.now) (g.K.Sink.contents c.give_report.new.out) (g.K.Sink.faults c.args.out.now)
    (g.K.Sink.faults c.give_report.new.out) c.give_report.result c.in-Ok.ensures.ran c.give_report.ensures
