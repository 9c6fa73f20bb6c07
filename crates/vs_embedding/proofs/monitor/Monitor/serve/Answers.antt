use Rattle.vs_device_parts.specs.Playing.{situation}
use Rattle.vs_embedding.specs.Ring.{silent}
use Rattle.vs_embedding.proofs.monitor.Monitor.serve.Goals as goal

pub turn-turn-requires-clause-order : goal.turn-turn-requires-clause-order
turn-turn-requires-clause-order g c = c.self.invariant.order

pub invariant_of-self : goal.invariant_of-self
invariant_of-self g c =
    let first = c.self.invariant.order.0 in
    let b = situation silent (g.H.HostNet.contents c.turn-turn.new.host) (g.H.HostNet.faults c.turn-turn.new.host) in
    record {
      chains = c.turn-turn.ensures.ring;
      order = (first, c.law_of_order.ensures.turn first _ c.args.now _ _ b (c.turn-turn.new.self, c.turn-turn.result) c.self.invariant.order.1 c.turn-turn.ensures.calls);
    }
