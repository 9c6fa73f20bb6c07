use Rattle.std.proofs.Common.{subst, sym}
use Rattle.laws_settled.specs.Begun.{Start}
use Rattle.vs_run_apps.specs.Sides.{IsReady}
use Rattle.vs_run_apps.proofs.running.run_under.Goals as goal

pub run_on-requires-clause-ready : goal.run_on-requires-clause-ready
run_on-requires-clause-ready g c κs within =
    subst (λ (start : Start). IsReady start (record {
      proxy = c.args.proxy;
      ring = c.in-Ok.ring;
      contents = g.H.HostNet.contents c.args.host.now;
      faults = g.H.HostNet.faults c.args.host.now;
    })) (sym c.requires.start)
    (c.requires.ready c.in-Ok.ring (g.H.HostNet.contents c.args.host.now) (g.H.HostNet.faults c.args.host.now) c.in-Ok.ensures.silent)
