use Rattle.std.proofs.Common.{refl, sym, subst}
use Rattle.vs_ring_port.specs.declared.queue.Queue.TheVariants.{Tx}
use Rattle.vs_driver_parts.specs.Steps.{stages_reply}
use Rattle.laws_world.specs.Events.{GuestReplies}
use Rattle.vs_core.{specs.Ready.IsReady, proofs.{Driven.{at_work_with, working}, Happening.{stages_on, works_elsewhere}}}
use Rattle.vs_core.proofs.world.World.guest_replies.Goals as goal

pub stage_reply-requires-clause-ring : goal.stage_reply-requires-clause-ring
stage_reply-requires-clause-ring c = working Tx _ _ (sym c.if-works_on.ensures) (subst IsReady (sym c.self.view_is) c.requires.ready).driven

pub stage_reply-requires-clause-honest : goal.stage_reply-requires-clause-honest
stage_reply-requires-clause-honest c = at_work_with Tx _ _ (sym c.if-works_on.ensures) (subst IsReady (sym c.self.view_is) c.requires.ready).driven

pub returns-then-works_on : goal.returns-then-works_on
returns-then-works_on c =
    let ready = subst IsReady (sym c.self.view_is) c.requires.ready in
    let d = c.stage_reply in
    rw (← c.self.view_is) (stages_on GuestReplies Tx stages_reply _ refl ready (sym c.if-works_on.ensures) d.new.driver d.new.ring
    d.ensures.calls d.ensures.ring d.ensures.honest)

pub returns-else-works_on : goal.returns-else-works_on
returns-else-works_on c =
    let ready = subst IsReady (sym c.self.view_is) c.requires.ready in
    rw (← c.self.view_is) (works_elsewhere GuestReplies Tx stages_reply _ refl ready (sym c.if-works_on.ensures))
