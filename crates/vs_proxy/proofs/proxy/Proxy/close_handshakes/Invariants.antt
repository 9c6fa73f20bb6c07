use Rattle.std.proofs.Common.{drop}
use Rattle.vs_contents.specs.CallTree.{for_each}
use Rattle.vs_ring_port.specs.Contents.{RingContents}
use Rattle.vs_device_parts.specs.{Calls.Situation, Playing.MayRunOnHost, Playing.Runs, Playing.situation}
use Rattle.vs_proxy_parts.specs.{Handshakes.streams_of, State.ProxyState, Turns.close_handshake}
use Rattle.vs_proxy.proofs.proxy.Proxy.close_handshakes.Given as goal

-- whatever completes the rest completes the whole
abbrev pub invariant-loop-stream : goal.invariant-loop-stream
invariant-loop-stream g l = record {
  goes_on : (s : ProxyState) (ring : RingContents) (x : ProxyState) (t : Situation)
      → Runs (for_each close_handshake (drop l.stream-index l.stream-items) s) (situation ring (g.H.HostNet.contents l.host) (g.H.HostNet.faults l.host)) x t
      → Runs (for_each close_handshake (streams_of l.fn.self) s) (situation ring (g.H.HostNet.contents l.fn.host) (g.H.HostNet.faults l.fn.host)) x t;
  may : (s : ProxyState) × MayRunOnHost (for_each close_handshake (drop l.stream-index l.stream-items) s) (g.H.HostNet.contents l.host) (g.H.HostNet.faults l.host);
}
