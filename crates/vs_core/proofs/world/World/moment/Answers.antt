use Rattle.std.proofs.Common.{sym, subst}
use Rattle.vs_core.{specs.Ready.IsReady, proofs.DeviceHappening.moment_did}
use Rattle.vs_core.proofs.world.World.moment.Goals as goal

pub returns : goal.returns
returns c =
    let ready = subst IsReady (sym c.self.view_is) c.requires.ready in
    rw (← c.self.view_is) (moment_did c.args.now _ c.set_moment.new.proxy c.set_moment.ensures ready)
