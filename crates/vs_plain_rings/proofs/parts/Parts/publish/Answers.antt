use Rattle.vs_plain_rings.{specs.View.parts_in, proofs.Order.order_event, proofs.Order.order_rx, proofs.Order.order_tx}
use Rattle.vs_plain_rings.proofs.parts.Parts.publish.Goals as goal

pub invariant_of-self : goal.invariant_of-self
invariant_of-self c =
    order_rx (parts_in c.self.inside) c.publish.new.self c.publish.new.device c.self.invariant c.publish.ensures.place c.publish.ensures.same_size
    c.publish.ensures.same_place

pub invariant_of-self-in-Tx : goal.invariant_of-self-in-Tx
invariant_of-self-in-Tx c =
    order_tx (parts_in c.self.inside) c.publish-in-Tx.new.self c.publish-in-Tx.new.device c.self.invariant c.publish-in-Tx.ensures.place c.publish-in-Tx.ensures.same_size
    c.publish-in-Tx.ensures.same_place

pub invariant_of-self-in-Event : goal.invariant_of-self-in-Event
invariant_of-self-in-Event c =
    order_event (parts_in c.self.inside) c.publish-in-Event.new.self c.publish-in-Event.new.device c.self.invariant c.publish-in-Event.ensures.place c.publish-in-Event.ensures.same_size
    c.publish-in-Event.ensures.same_place
