use Rattle.std.proofs.Common.{ap, refl, sym, subst}
use Rattle.vs_outside.specs.{Host.with_stream, HostProgram.allowed}
use Rattle.laws_world.{specs.Events.HostTakes, proofs.StayOpen.stream_stays}
use Rattle.vs_core.{specs.Ready.IsReady, proofs.DeviceHappening.host_did}
use Rattle.vs_core.proofs.world.World.host_takes.Goals as goal

pub returns : goal.returns
returns c =
    let ready = subst IsReady (sym c.self.view_is) c.requires.ready in
    rw (← c.self.view_is) (host_did (HostTakes c.args.stream c.args.n)
    (with_stream c.args.stream (allowed 18446744073709551615 c.args.n)) _ c.allow-found.new.self.contents refl
    (ap (λ m. m.contents) c.allow-found.ensures.after)
    (stream_stays c.args.stream (allowed 18446744073709551615 c.args.n) c.self.inside.host.contents (λ s. refl)) ready)
