use Rattle.std.proofs.Common.{◌<◌, ◌^◌, arith}
use Rattle.vs_device_parts.specs.Playing.{situation}
use Rattle.vs_embedding.specs.Ring.{silent}
use Rattle.vs_embedding.proofs.monitor.Monitor.transport_reset.Goals as goal

pub reset-requires-clause-order : goal.reset-requires-clause-order
reset-requires-clause-order g c = c.self.invariant.order

pub invariant_of-self : goal.invariant_of-self
invariant_of-self g c =
    let first = c.self.invariant.order.0 in
    let cid : c.args.cid < 2 ^ 64 = omega (arith, c.requires.cid.1) in
    let b = situation silent (g.H.HostNet.contents c.reset.new.host) (g.H.HostNet.faults c.reset.new.host) in
    record {
      chains = c.reset.ensures.ring;
      order = (first, c.law_of_order.ensures.reset first c.args.cid _ _ b (c.reset.new.self, c.reset.result) cid c.self.invariant.order.1 c.reset.ensures.calls);
    }
