use Rattle.std.proofs.Common.{◌≡◌, ◌+◌, ◌-◌, ◌≤◌}
use Rattle.vs_contents.specs.CallTree.{while_up_to}
use Rattle.vs_ring_port.specs.Contents.{RingContents}
use Rattle.vs_uds.specs.declared.connect.TheConstants.{CONNECT_MAX}
use Rattle.vs_device_parts.specs.{Calls.Situation, Playing.MayRunOnHost, Playing.Runs, Playing.situation}
use Rattle.vs_proxy_parts.specs.{Handshakes.read_byte, Handshakes.read_line, State.Turning, Turning.CountsFew, Turning.turning_of}
use Rattle.vs_proxy.proofs.proxy.Proxy.read_line.Given as goal

-- whatever completes the rest completes the whole
abbrev pub invariant-loop : goal.invariant-loop
invariant-loop g l = record {
  goes_on : (ring : RingContents) (x : Turning) (t : Situation)
      → Runs (while_up_to (CONNECT_MAX - l.counter) (read_byte l.stream) (turning_of l.self l.tally)) (situation ring (g.H.HostNet.contents l.host) (g.H.HostNet.faults l.host)) x t
      → Runs (read_line l.stream (turning_of l.fn.self l.fn.tally)) (situation ring (g.H.HostNet.contents l.fn.host) (g.H.HostNet.faults l.fn.host)) x t;
  may : MayRunOnHost (while_up_to (CONNECT_MAX - l.counter) (read_byte l.stream) (turning_of l.self l.tally)) (g.H.HostNet.contents l.host) (g.H.HostNet.faults l.host);
  small : l.tally.hands ≤ l.fn.tally.hands + l.counter;
  read : l.tally.read ≤ l.fn.tally.read + l.counter;
  others : l.tally ≡ record l.fn.tally { read = l.tally.read; hands = l.tally.hands };
  opened : CountsFew l.counter 0 l.fn.self.device l.self.device;
  chain : l.self.device.chain ≡ l.fn.self.device.chain;
  within : l.counter ≤ CONNECT_MAX;
}
