use Rattle.std.proofs.Common.{ap, refl, sym, subst, ◌∙◌}
use Rattle.vs_outside.specs.HostProgram.{after_host_write, host_write_answer}
use Rattle.laws_world.{specs.Events.HostWrites, proofs.StayOpen.host_write_stays}
use Rattle.vs_core.{specs.Ready.IsReady, proofs.DeviceHappening.host_did}
use Rattle.vs_core.proofs.world.World.host_writes.Goals as goal

pub returns : goal.returns
returns c =
    let ready = subst IsReady (sym c.self.view_is) c.requires.ready in
    let old = c.self.inside.host.contents in
    rw (← c.self.view_is) (host_did (HostWrites c.args.stream c.args.bytes.now)
    (λ h. after_host_write c.args.stream c.args.bytes.now (host_write_answer c.args.stream h) h) _ c.host_write.new.self.contents refl
    (ap (λ m. m.contents) c.in_ok-host_write.ensures.ok ∙ ap
    (λ a. after_host_write c.args.stream c.args.bytes.now a old) c.in_ok-host_write.ensures.answer)
    (host_write_stays c.args.stream c.args.bytes.now (host_write_answer c.args.stream old) old) ready)
