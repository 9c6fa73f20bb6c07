use Rattle.std.proofs.Common.{ap, ◌∙◌}
use Rattle.vs_ring_port.specs.Chains.{without}
use Rattle.vs_ring_plain.{specs.Device.chains_held, proofs.Calls.returns_by}
use Rattle.laws_plain_rings.specs.Exposed.{BothEnds}
use Rattle.vs_plain_rings.proofs.Rings.{allows_returned, tied_returned}
use Rattle.vs_plain_rings.proofs.plain_rings.PlainRingsDeviceRing.done.Goals as goal

pub invariant_of-self : goal.invariant_of-self
invariant_of-self c =
    tied_returned c.self.inside.parts c.self.inside.journal.calls c.args.self.now c.self.view_is c.self.invariant c.args.chain c.args.len
    c.give_back.new.self c.then-journal.result.calls c.give_back.ensures.rest c.give_back.ensures.exact c.requires.is_held
    c.requires.written
    c.then-journal.ensures

pub returns-clause-held : goal.returns-clause-held
returns-clause-held c =
    (returns_by c.args.chain c.args.len c.self.inside.parts.device c.give_back.new.self.device c.give_back.ensures.exact).0
    ∙ ap (λ (x : BothEnds). without c.args.chain (chains_held x.parts.device)) c.self.view_is

pub returns-clause-contents : goal.returns-clause-contents
returns-clause-contents c =
    allows_returned c.self.inside.parts c.self.inside.journal.calls c.args.self.now c.self.view_is c.self.invariant c.args.chain c.args.len
    c.give_back.new.self c.then-journal.result.calls c.give_back.ensures.exact c.requires.written c.then-journal.ensures
