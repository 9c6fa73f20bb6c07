use Rattle.vs_plain_rings.proofs.Rings.{allows_reset, tied_reset}
use Rattle.vs_plain_rings.proofs.plain_rings.PlainRingsDeviceRing.publish_cid.Goals as goal

pub invariant_of-self : goal.invariant_of-self
invariant_of-self c =
    tied_reset c.self.inside.parts c.self.inside.journal.calls c.args.self.now c.self.view_is c.self.invariant c.args.cid
    c.publish_cid.new.self
    c.then-self-inside.result.calls c.publish_cid.ensures c.then-self-inside.ensures

pub returns-clause-contents : goal.returns-clause-contents
returns-clause-contents c =
    allows_reset c.self.inside.parts c.self.inside.journal.calls c.args.self.now c.self.view_is c.self.invariant c.args.cid
    c.publish_cid.new.self
    c.then-self-inside.result.calls c.publish_cid.ensures c.then-self-inside.ensures
