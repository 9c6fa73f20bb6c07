use Rattle.vs_plain_rings.proofs.Rings.{allows_read, tied_read}
use Rattle.vs_plain_rings.proofs.plain_rings.PlainRingsDeviceRing.read.Goals as goal

pub invariant_of-self : goal.invariant_of-self
invariant_of-self c =
    tied_read c.self.inside.parts c.self.inside.journal.calls c.args.self.now c.self.view_is c.self.invariant c.args.chain.now c.args.at _
    c.read.new.out c.read.new.self c.read.ensures.rest c.read.ensures.exact c.requires.is_held c.requires.in_range

pub returns-clause-contents : goal.returns-clause-contents
returns-clause-contents c =
    allows_read c.self.inside.parts c.self.inside.journal.calls c.args.self.now c.self.view_is c.self.invariant c.args.chain.now c.args.at _
    c.read.new.out c.read.new.self c.read.ensures.exact c.requires.is_held c.requires.in_range
