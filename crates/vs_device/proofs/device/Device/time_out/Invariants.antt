use Rattle.std.proofs.Common.{◌≡◌, ℕ, drop, Option}
use Rattle.vs_contents.specs.CallTree.{for_each}
use Rattle.vs_outside.specs.Host.{HostContents}
use Rattle.vs_device_parts.specs.{State.DeviceState, Playing.MayRunOnHost, Playing.RunsOnHost, Streams.tick_slot}
use Rattle.vs_flow.specs.Table.{slots}
use Rattle.vs_device.proofs.device.Device.time_out.Given as goal

-- whatever completes the rest completes the whole
abbrev pub invariant-loop-slot : goal.invariant-loop-slot
invariant-loop-slot g l = record {
  goes_on : (new : DeviceState) (h : Option HostContents) (n : ℕ) → RunsOnHost (for_each tick_slot (drop l.slot-index l.slot-items) l.self) (g.H.HostNet.contents l.host) (g.H.HostNet.faults l.host) new h n
      → RunsOnHost (for_each tick_slot (slots l.fn.self.table) l.fn.self) (g.H.HostNet.contents l.fn.host) (g.H.HostNet.faults l.fn.host) new h n;
  may : MayRunOnHost (for_each tick_slot (drop l.slot-index l.slot-items) l.self) (g.H.HostNet.contents l.host) (g.H.HostNet.faults l.host);
  chain : l.self.chain ≡ l.fn.self.chain;
}
