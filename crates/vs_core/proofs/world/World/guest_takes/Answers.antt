use Rattle.std.proofs.Common.{refl, sym, subst}
use Rattle.vs_driver_parts.specs.Steps.{takes_page}
use Rattle.laws_world.specs.Events.{GuestTakes}
use Rattle.vs_core.{specs.Ready.IsReady, proofs.{Driven.{at_work_with, working}, Happening.{stages_on, works_elsewhere}}}
use Rattle.vs_core.proofs.world.World.guest_takes.Goals as goal

pub take_page-requires-clause-ring : goal.take_page-requires-clause-ring
take_page-requires-clause-ring c = working c.args.queue _ _ (sym c.if-works_on.ensures) (subst IsReady (sym c.self.view_is) c.requires.ready).driven

pub take_page-requires-clause-honest : goal.take_page-requires-clause-honest
take_page-requires-clause-honest c = at_work_with c.args.queue _ _ (sym c.if-works_on.ensures) (subst IsReady (sym c.self.view_is) c.requires.ready).driven

pub returns-then-works_on : goal.returns-then-works_on
returns-then-works_on c =
    let ready = subst IsReady (sym c.self.view_is) c.requires.ready in
    let d = c.take_page in
    rw (← c.self.view_is) (stages_on (GuestTakes c.args.queue) c.args.queue (takes_page c.args.queue) _ refl ready (sym c.if-works_on.ensures) d.new.driver d.new.ring
    d.ensures.calls d.ensures.ring d.ensures.honest)

pub returns-else-works_on : goal.returns-else-works_on
returns-else-works_on c =
    let ready = subst IsReady (sym c.self.view_is) c.requires.ready in
    rw (← c.self.view_is) (works_elsewhere (GuestTakes c.args.queue) c.args.queue (takes_page c.args.queue) _ refl ready (sym c.if-works_on.ensures))
