use Rattle.std.proofs.Common.{sym, subst}
use Rattle.vs_core.{specs.Ready.IsReady, proofs.DeviceHappening.growth_did}
use Rattle.vs_core.proofs.world.World.device_grows.Goals as goal

pub returns : goal.returns
returns c =
    let ready = subst IsReady (sym c.self.view_is) c.requires.ready in
    rw (← c.self.view_is) (growth_did c.args.flow c.args.alloc _ c.grow-answer.new.self c.grow-answer.ensures.state ready)
