use Rattle.std.proofs.Common.{◌≡◌, true, refl, sym, subst}
use Rattle.laws_world.specs.Events.{is_at_rest}
use Rattle.vs_core.{specs.Ready.{IsReady, WorldState}, proofs.{Driven.{is_honest, resting}, Happening.{right_port, sends_on}}}
use Rattle.laws_driver.specs.Carried.Calls as call
use Rattle.vs_core.proofs.world.World.connect.Goals as goal

pub connect-requires-clause-ring : goal.connect-requires-clause-ring
connect-requires-clause-ring c =
    let ready = subst IsReady (sym c.self.view_is) c.requires.ready in
    let rest = subst (λ (w : WorldState). is_at_rest w.rings.driver.staged ≡ true) (sym c.self.view_is) c.requires.rest in
    let old = c.self.inside in
    resting old.driver old.rings rest ready.driven

pub connect-requires-clause-honest : goal.connect-requires-clause-honest
connect-requires-clause-honest c =
    let ready = subst IsReady (sym c.self.view_is) c.requires.ready in
    let rest = subst (λ (w : WorldState). is_at_rest w.rings.driver.staged ≡ true) (sym c.self.view_is) c.requires.rest in
    let old = c.self.inside in
    is_honest old.driver old.rings rest ready.driven

pub returns : goal.returns
returns c =
    let ready = subst IsReady (sym c.self.view_is) c.requires.ready in
    let rest = subst (λ (w : WorldState). is_at_rest w.rings.driver.staged ≡ true) (sym c.self.view_is) c.requires.rest in
    let old = c.self.inside in
    let d = c.connect in
    rw (← c.self.view_is) (sends_on (call.Connect c.args.port) _ ready d.new.driver d.result d.new.ring _ rest (right_port c.args.port c.ranges.port.fits)
    d.ensures.calls d.ensures.ring d.ensures.honest refl)
