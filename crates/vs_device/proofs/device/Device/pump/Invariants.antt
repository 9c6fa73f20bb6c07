use Rattle.std.proofs.Common.{◌≡◌, ℕ, ◌*◌, ◌≤◌, length, drop, Option}
use Rattle.vs_contents.specs.CallTree.{for_each}
use Rattle.vs_outside.specs.Host.{HostContents}
use Rattle.vs_limits.specs.declared.TheConstants.{DEVICE_CONNECTIONS, WRITE_MAX}
use Rattle.vs_device_parts.specs.{Playing.{MayRunOnHost, RunsOnHost}, Streams.{Writing, pump_of, pump_slot}, Written.writing}
use Rattle.vs_device.proofs.device.Device.pump.Given as goal

-- whatever completes the rest completes the whole
abbrev pub invariant-loop-slot : goal.invariant-loop-slot
invariant-loop-slot g l = record {
  goes_on : (new : Writing) (h : Option HostContents) (n : ℕ) → RunsOnHost (for_each pump_slot (drop l.slot-index l.slot-items) (writing l.self l.wrote)) (g.H.HostNet.contents l.host) (g.H.HostNet.faults l.host) new h n
      → RunsOnHost (pump_of l.fn.self) (g.H.HostNet.contents l.fn.host) (g.H.HostNet.faults l.fn.host) new h n;
  may : MayRunOnHost (for_each pump_slot (drop l.slot-index l.slot-items) (writing l.self l.wrote)) (g.H.HostNet.contents l.host) (g.H.HostNet.faults l.host);
  chain : l.self.chain ≡ l.fn.self.chain;
  small : l.wrote ≤ WRITE_MAX * l.slot-index;
  few : length l.slot-items ≤ DEVICE_CONNECTIONS;
}
