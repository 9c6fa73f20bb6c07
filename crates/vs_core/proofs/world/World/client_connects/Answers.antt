use Rattle.std.proofs.Common.{ap, refl, sym, subst}
use Rattle.vs_outside.specs.HostProgram.{after_client}
use Rattle.laws_world.{specs.Events.ClientConnects, proofs.StayOpen.client_stays}
use Rattle.vs_core.{specs.Ready.IsReady, proofs.DeviceHappening.host_did}
use Rattle.vs_core.proofs.world.World.client_connects.Goals as goal

pub returns : goal.returns
returns c =
    let ready = subst IsReady (sym c.self.view_is) c.requires.ready in
    rw (← c.self.view_is) (host_did ClientConnects (after_client) _ c.client.new.self.contents refl
    (ap (λ m. m.contents) c.in_ok-client.ensures.ok) (client_stays c.self.inside.host.contents) ready)
