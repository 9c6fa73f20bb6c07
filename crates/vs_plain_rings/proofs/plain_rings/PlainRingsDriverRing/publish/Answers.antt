use Rattle.vs_plain_rings.proofs.Rings.{allows_published, tied_published}
use Rattle.vs_plain_rings.proofs.plain_rings.PlainRingsDriverRing.publish.Goals as goal

pub invariant_of-self : goal.invariant_of-self
invariant_of-self c =
    tied_published c.self.inside.parts c.self.inside.journal.calls c.args.self.now c.self.view_is c.self.invariant c.args.queue
    c.publish.new.self
    c.then-self-inside.result.calls c.publish.ensures c.then-self-inside.ensures c.requires.fair

pub returns-clause-contents : goal.returns-clause-contents
returns-clause-contents c =
    allows_published c.self.inside.parts c.self.inside.journal.calls c.args.self.now c.self.view_is c.self.invariant c.args.queue
    c.publish.new.self
    c.then-self-inside.result.calls c.publish.ensures c.then-self-inside.ensures c.requires.fair
