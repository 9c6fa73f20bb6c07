use Rattle.std.proofs.{Common.ap, Common.refl, Common.sym, Common.subst, lemmas.Result.on_ok_weaker}
use Rattle.vs_outside.specs.HostProgram.{after_unlisten}
use Rattle.laws_world.specs.Events.{HostUnlistens}
use Rattle.vs_core.{specs.Ready.IsReady, proofs.DeviceHappening.host_did}
use Rattle.vs_header.specs.declared.Kind.TheVariants as kind
use Rattle.vs_core.proofs.world.World.host_unlistens.Goals as goal

pub returns : goal.returns
returns c =
    let ready = subst IsReady (sym c.self.view_is) c.requires.ready in
    rw (← c.self.view_is) (on_ok_weaker c.unlisten.result
    (λ is. host_did (HostUnlistens c.args.port) (after_unlisten c.args.port kind.Stream) _ c.unlisten.new.self.contents refl (ap (λ m. m.contents) is)
    (λ id still. still) ready) c.unlisten.ensures.ok)
