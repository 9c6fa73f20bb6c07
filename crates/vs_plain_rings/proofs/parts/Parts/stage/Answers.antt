use Rattle.vs_plain_rings.{specs.View.parts_in, proofs.Order.order_event, proofs.Order.order_rx, proofs.Order.order_tx}
use Rattle.vs_plain_rings.proofs.parts.Parts.stage.Goals as goal

pub invariant_of-self : goal.invariant_of-self
invariant_of-self c =
    order_rx (parts_in c.self.inside) c.stage.new.self c.stage.new.device c.self.invariant c.stage.ensures.place c.stage.ensures.same_size
    c.stage.ensures.same_place

pub invariant_of-self-in-Tx : goal.invariant_of-self-in-Tx
invariant_of-self-in-Tx c =
    order_tx (parts_in c.self.inside) c.stage-in-Tx.new.self c.stage-in-Tx.new.device c.self.invariant c.stage-in-Tx.ensures.place c.stage-in-Tx.ensures.same_size
    c.stage-in-Tx.ensures.same_place

pub invariant_of-self-in-Event : goal.invariant_of-self-in-Event
invariant_of-self-in-Event c =
    order_event (parts_in c.self.inside) c.stage-in-Event.new.self c.stage-in-Event.new.device c.self.invariant c.stage-in-Event.ensures.place c.stage-in-Event.ensures.same_size
    c.stage-in-Event.ensures.same_place
