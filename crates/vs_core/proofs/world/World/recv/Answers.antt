use Rattle.std.proofs.Common.{◌≡◌, refl, subst, sym, true}
use Rattle.laws_world.specs.Events.{is_at_rest}
use Rattle.vs_core.{specs.Ready.IsReady, specs.Ready.WorldState, proofs.Happening.calls}
use Rattle.laws_driver.specs.Carried.Calls as call
use Rattle.vs_core.proofs.world.World.recv.Goals as goal

pub returns : goal.returns
returns c =
    let ready = subst IsReady (sym c.self.view_is) c.requires.ready in
    let rest = subst (λ (w : WorldState). is_at_rest w.rings.driver.staged ≡ true) (sym c.self.view_is) c.requires.rest in
    rw (← c.self.view_is) (calls (call.Recv c.args.id c.args.len) _ ready c.received.new.driver (c.in_ok-answer.answer, c.in_ok-answer.bytes.items) _ rest refl
    c.in_ok-answer.ensures.made (c.in_ok-answer.ensures.driven _ rest ready.driven) refl)
