use Rattle.std.proofs.Common.{refl, sym, subst}
use Rattle.vs_driver_parts.specs.Conversations.{publish_of}
use Rattle.laws_world.specs.Events.{GuestPublishes}
use Rattle.vs_core.{specs.Ready.IsReady, proofs.{Driven.{at_work_with, working}, Happening.{publishes_on, works_elsewhere}}}
use Rattle.vs_core.proofs.world.World.guest_publishes.Goals as goal

pub publish-requires-clause-ring : goal.publish-requires-clause-ring
publish-requires-clause-ring c = working c.args.queue _ _ (sym c.if-works_on.ensures) (subst IsReady (sym c.self.view_is) c.requires.ready).driven

pub publish-requires-clause-honest : goal.publish-requires-clause-honest
publish-requires-clause-honest c = at_work_with c.args.queue _ _ (sym c.if-works_on.ensures) (subst IsReady (sym c.self.view_is) c.requires.ready).driven

pub returns-then-works_on : goal.returns-then-works_on
returns-then-works_on c =
    let ready = subst IsReady (sym c.self.view_is) c.requires.ready in
    let d = c.publish in
    rw (← c.self.view_is) (publishes_on (GuestPublishes c.args.queue) c.args.queue (publish_of c.args.queue) _ refl ready (sym c.if-works_on.ensures) d.new.driver d.new.ring
    d.ensures.calls d.ensures.ring d.ensures.honest)

pub returns-else-works_on : goal.returns-else-works_on
returns-else-works_on c =
    let ready = subst IsReady (sym c.self.view_is) c.requires.ready in
    rw (← c.self.view_is) (works_elsewhere (GuestPublishes c.args.queue) c.args.queue (publish_of c.args.queue) _ refl ready (sym c.if-works_on.ensures))
