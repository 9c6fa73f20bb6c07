use Rattle.vs_plain_rings.proofs.Rings.{allows_given, tied_given}
use Rattle.vs_plain_rings.proofs.plain_rings.PlainRingsDeviceRing.given.Goals as goal

pub invariant_of-self : goal.invariant_of-self
invariant_of-self c =
    tied_given c.self.inside.parts c.self.inside.journal.calls c.args.self.now c.self.view_is c.self.invariant c.args.queue c.given.result
    c.given.new.self c.given.ensures.rest c.given.ensures.exact

pub returns-clause-contents : goal.returns-clause-contents
returns-clause-contents c =
    allows_given c.self.inside.parts c.self.inside.journal.calls c.args.self.now c.self.view_is c.self.invariant c.args.queue c.given.result
    c.given.new.self c.given.ensures.exact
