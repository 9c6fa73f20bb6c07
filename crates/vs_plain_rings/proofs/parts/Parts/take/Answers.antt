use Rattle.vs_plain_rings.{specs.View.parts_in, proofs.Order.order_device}
use Rattle.vs_plain_rings.proofs.parts.Parts.take.Goals as goal

pub invariant_of-self : goal.invariant_of-self
invariant_of-self c = order_device (parts_in c.self.inside) c.take.new.self c.self.invariant c.take.ensures.place
