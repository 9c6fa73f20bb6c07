use Rattle.std.proofs.Common.{ap, refl, sym, subst}
use Rattle.vs_outside.specs.{Host.with_stream, HostProgram.closed}
use Rattle.laws_world.{specs.Events.HostCloses, proofs.StayOpen.stream_stays}
use Rattle.vs_core.{specs.Ready.IsReady, proofs.DeviceHappening.host_did}
use Rattle.vs_core.proofs.world.World.host_closes.Goals as goal

pub returns : goal.returns
returns c =
    let ready = subst IsReady (sym c.self.view_is) c.requires.ready in
    rw (← c.self.view_is) (host_did (HostCloses c.args.stream) (with_stream c.args.stream closed) _ c.closed-found.new.self.contents refl
    (ap (λ m. m.contents) c.closed-found.ensures.after) (stream_stays c.args.stream closed c.self.inside.host.contents (λ s. refl)) ready)
