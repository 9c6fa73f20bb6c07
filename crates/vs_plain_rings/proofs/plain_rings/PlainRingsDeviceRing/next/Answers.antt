use Rattle.vs_ring_plain.proofs.Calls.{takes_by}
use Rattle.vs_plain_rings.proofs.Rings.{allows_taken, tied_taken}
use Rattle.vs_plain_rings.proofs.plain_rings.PlainRingsDeviceRing.next.Goals as goal

pub invariant_of-self : goal.invariant_of-self
invariant_of-self c =
    tied_taken c.self.inside.parts c.self.inside.journal.calls c.args.self.now c.self.view_is c.self.invariant c.args.queue
    c.take-next.result
    c.take-next.new.self c.then-self-inside.result.calls c.take-next.ensures.rest c.take-next.ensures.exact c.then-self-inside.ensures

pub returns-clause-long_enough : goal.returns-clause-long_enough
returns-clause-long_enough c =
    (takes_by c.args.queue c.take-next.result c.self.inside.parts.device c.take-next.new.self.device c.take-next.ensures.exact).long_enough

pub returns-clause-contents : goal.returns-clause-contents
returns-clause-contents c =
    allows_taken c.self.inside.parts c.self.inside.journal.calls c.args.self.now c.self.view_is c.self.invariant c.args.queue
    c.take-next.result
    c.take-next.new.self c.then-self-inside.result.calls c.take-next.ensures.exact c.then-self-inside.ensures
