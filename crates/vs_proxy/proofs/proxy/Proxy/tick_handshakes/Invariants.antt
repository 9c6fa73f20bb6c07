use Rattle.std.proofs.Common.{◌≡◌, ◌≤◌, length, drop}
use Rattle.vs_contents.specs.CallTree.{for_each}
use Rattle.vs_ring_port.specs.Contents.{RingContents}
use Rattle.vs_device_parts.specs.{Calls.Situation, Playing.MayRunOnHost, Playing.Runs, Playing.situation}
use Rattle.vs_proxy_parts.specs.{Handshakes.{tick_handshake, tick_handshakes}, State.Turning, Turning.{CountsFew, turning_of}}
use Rattle.vs_limits.specs.declared.TheConstants.{HANDSHAKES}
use Rattle.vs_proxy.proofs.proxy.Proxy.tick_handshakes.Given as goal

-- whatever completes the rest completes the whole
abbrev pub invariant-loop-stream : goal.invariant-loop-stream
invariant-loop-stream g l = record {
  goes_on : (ring : RingContents) (x : Turning) (t : Situation)
      → Runs (for_each tick_handshake (drop l.stream-index l.stream-items) (turning_of l.self l.tally)) (situation ring (g.H.HostNet.contents l.host) (g.H.HostNet.faults l.host)) x t
      → Runs (tick_handshakes (turning_of l.fn.self l.fn.tally)) (situation ring (g.H.HostNet.contents l.fn.host) (g.H.HostNet.faults l.fn.host)) x t;
  may : MayRunOnHost (for_each tick_handshake (drop l.stream-index l.stream-items) (turning_of l.self l.tally)) (g.H.HostNet.contents l.host) (g.H.HostNet.faults l.host);
  small : l.tally.hands ≤ l.stream-index;
  few : length l.stream-items ≤ HANDSHAKES;
  others : l.tally ≡ record l.fn.tally { hands = l.tally.hands };
  same : CountsFew 0 0 l.fn.self.device l.self.device;
  chain : l.self.device.chain ≡ l.fn.self.device.chain;
}
