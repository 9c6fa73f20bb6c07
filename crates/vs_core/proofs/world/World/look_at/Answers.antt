use Rattle.std.proofs.Common.{◌≡◌, ap, refl, subst, sym, true}
use Rattle.laws_world.specs.Events.{is_at_rest}
use Rattle.vs_core.{specs.Ready.IsReady, specs.Ready.WorldState, proofs.Happening.calls}
use Rattle.laws_driver.specs.Carried.Calls as call
use Rattle.vs_core.specs.declared.event.Reply.TheVariants as reply
use Rattle.vs_core.proofs.world.World.look_at.Goals as goal

pub returns : goal.returns
returns c =
    let ready = subst IsReady (sym c.self.view_is) c.requires.ready in
    let rest = subst (λ (w : WorldState). is_at_rest w.rings.driver.staged ≡ true) (sym c.self.view_is) c.requires.rest in
    rw (← c.self.view_is) (calls (call.LookAt c.args.id) _ ready _ _ _ rest refl refl ready.driven (ap reply.Looked c.state.ensures))
