use Rattle.vs_plain_rings.proofs.Rings.{allows_loaded, tied_loaded}
use Rattle.vs_plain_rings.proofs.plain_rings.PlainRingsDriverRing.cid.Goals as goal

pub invariant_of-self : goal.invariant_of-self
invariant_of-self c =
    tied_loaded c.self.inside.parts c.self.inside.journal.calls c.args.self.now c.self.view_is c.self.invariant
    c.then-self-inside.result.calls
    c.then-self-inside.ensures

pub returns-clause-contents : goal.returns-clause-contents
returns-clause-contents c =
    allows_loaded c.self.inside.parts c.self.inside.journal.calls c.args.self.now c.self.view_is c.self.invariant c.cid.result
    c.then-self-inside.result.calls c.cid.ensures.value c.then-self-inside.ensures
