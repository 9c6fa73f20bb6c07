use Rattle.std.proofs.Common.{◌∙◌}
use Rattle.vs_plain_rings.proofs.Rings.{allows_reaped, tied_reaped}
use Rattle.vs_plain_rings.proofs.plain_rings.PlainRingsDriverRing.reap.Goals as goal

pub invariant_of-self : goal.invariant_of-self
invariant_of-self c =
    tied_reaped c.self.inside.parts c.self.inside.journal.calls c.args.self.now c.self.view_is c.self.invariant c.args.queue
    c.reap-page.new.self
    c.then-self-inside.result.calls c.reap-page.ensures.after c.then-self-inside.ensures

pub returns-clause-contents : goal.returns-clause-contents
returns-clause-contents c =
    allows_reaped c.self.inside.parts c.self.inside.journal.calls c.args.self.now c.self.view_is c.self.invariant c.args.queue _
    c.reap-page.new.self c.then-self-inside.result.calls c.reap-page.ensures.after c.then-self-inside.ensures
    (c.reaped.ensures ∙ c.reap-page.ensures.page)
