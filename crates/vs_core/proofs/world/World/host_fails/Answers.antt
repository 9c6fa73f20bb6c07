use Rattle.std.proofs.{Common.ap, Common.refl, Common.sym, Common.subst, lemmas.Result.on_ok_weaker}
use Rattle.vs_outside.specs.HostProgram.{after_fail}
use Rattle.laws_world.specs.Events.{HostFails}
use Rattle.vs_core.{specs.Ready.IsReady, proofs.DeviceHappening.host_did}
use Rattle.vs_core.proofs.world.World.host_fails.Goals as goal

pub returns : goal.returns
returns c =
    let ready = subst IsReady (sym c.self.view_is) c.requires.ready in
    rw (← c.self.view_is) (on_ok_weaker c.fail.result
    (λ is. host_did (HostFails c.args.n) (after_fail c.args.n) _ c.fail.new.self.contents refl (ap (λ m. m.contents) is)
    (λ id still. still) ready) c.fail.ensures.ok)
