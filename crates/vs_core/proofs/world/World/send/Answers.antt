use Rattle.std.proofs.Common.{◌≡◌, true, refl, sym, subst}
use Rattle.laws_world.specs.Events.{is_at_rest}
use Rattle.vs_core.{specs.Ready.IsReady, specs.Ready.WorldState, proofs.Driven.is_honest, proofs.Driven.resting, proofs.Happening.sends_on}
use Rattle.laws_driver.specs.Carried.Calls as call
use Rattle.vs_core.proofs.world.World.send.Goals as goal

pub send-requires-clause-ring : goal.send-requires-clause-ring
send-requires-clause-ring c =
    let ready = subst IsReady (sym c.self.view_is) c.requires.ready in
    let rest = subst (λ (w : WorldState). is_at_rest w.rings.driver.staged ≡ true) (sym c.self.view_is) c.requires.rest in
    let old = c.self.inside in
    resting old.driver old.rings rest ready.driven

pub send-requires-clause-honest : goal.send-requires-clause-honest
send-requires-clause-honest c =
    let ready = subst IsReady (sym c.self.view_is) c.requires.ready in
    let rest = subst (λ (w : WorldState). is_at_rest w.rings.driver.staged ≡ true) (sym c.self.view_is) c.requires.rest in
    let old = c.self.inside in
    is_honest old.driver old.rings rest ready.driven

pub returns : goal.returns
returns c =
    let ready = subst IsReady (sym c.self.view_is) c.requires.ready in
    let rest = subst (λ (w : WorldState). is_at_rest w.rings.driver.staged ≡ true) (sym c.self.view_is) c.requires.rest in
    let old = c.self.inside in
    let d = c.send in
    rw (← c.self.view_is) (sends_on (call.Send c.args.id c.args.bytes.now) _ ready d.new.driver d.result d.new.ring _ rest refl
    d.ensures.calls d.ensures.ring d.ensures.honest refl)
