use Rattle.vs_plain_rings.proofs.Rings.{allows_written, tied_written}
use Rattle.vs_plain_rings.proofs.plain_rings.PlainRingsDeviceRing.write.Goals as goal

pub invariant_of-self : goal.invariant_of-self
invariant_of-self c =
    tied_written c.self.inside.parts c.self.inside.journal.calls c.args.self.now c.self.view_is c.self.invariant c.args.chain.now c.args.at
    c.args.bytes.now c.write.new.self c.then-self-inside.result.calls c.write.ensures.rest c.write.ensures.exact c.requires.is_held
    c.requires.in_range c.requires.no_gap c.then-self-inside.ensures

pub returns-clause-contents : goal.returns-clause-contents
returns-clause-contents c =
    allows_written c.self.inside.parts c.self.inside.journal.calls c.args.self.now c.self.view_is c.self.invariant c.args.chain.now
    c.args.at
    c.args.bytes.now c.write.new.self c.then-self-inside.result.calls c.write.ensures.exact c.then-self-inside.ensures
