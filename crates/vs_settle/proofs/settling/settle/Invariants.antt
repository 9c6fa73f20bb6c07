use Rattle.vs_ring_port.specs.Chains.{chains_of}
use Rattle.vs_ring_shared.specs.Sights.{device_contents}
use Rattle.vs_device_parts.specs.Playing.{IsItsRing, situation}
use Rattle.laws_settled.specs.{Begun.StaysBegun, Settled.IsSteady}
use Rattle.vs_settle.proofs.settling.settle.Given as goal

abbrev pub invariant-loop : goal.invariant-loop
invariant-loop g l = record {
  ring : IsItsRing (chains_of l.ring.held) l.proxy.device;
  begun : StaysBegun l.fn.proxy (situation (device_contents l.fn.ring) (g.H.HostNet.contents l.fn.host) (g.H.HostNet.faults l.fn.host)) l.proxy
      (situation (device_contents l.ring) (g.H.HostNet.contents l.host) (g.H.HostNet.faults l.host));
  steady : IsSteady l.proxy (situation (device_contents l.ring) (g.H.HostNet.contents l.host) (g.H.HostNet.faults l.host));
}
