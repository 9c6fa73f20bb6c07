use Rattle.std.proofs.Common.{ap, refl, sym, subst}
use Rattle.vs_outside.specs.{Host.with_stream, HostProgram.ended}
use Rattle.laws_world.{specs.Events.HostEnds, proofs.StayOpen.stream_stays}
use Rattle.vs_core.{specs.Ready.IsReady, proofs.DeviceHappening.host_did}
use Rattle.vs_core.proofs.world.World.host_ends.Goals as goal

pub returns : goal.returns
returns c =
    let ready = subst IsReady (sym c.self.view_is) c.requires.ready in
    rw (← c.self.view_is) (host_did (HostEnds c.args.stream) (with_stream c.args.stream ended) _ c.end-found.new.self.contents refl
    (ap (λ m. m.contents) c.end-found.ensures.after) (stream_stays c.args.stream ended c.self.inside.host.contents (λ s. refl)) ready)
