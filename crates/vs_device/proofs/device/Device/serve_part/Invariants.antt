use Rattle.std.proofs.Common.{◌+◌, ◌*◌, ◌≤◌, drop}
use Rattle.vs_contents.specs.CallTree.{for_each}
use Rattle.vs_page.specs.declared.page.TheConstants.{PAYLOAD_MAX}
use Rattle.vs_device_parts.specs.{Calls.Situation, Filling.filling_of, Playing.{IsRingOf, MayRun, Runs, situation}, Receiving.{Filling, serve_slot}}
use Rattle.vs_device.proofs.device.Device.serve_part.Given as goal

-- whatever completes the rest completes the whole
abbrev pub invariant-loop-slot : goal.invariant-loop-slot
invariant-loop-slot g l = record {
  goes_on : (x : Filling) (t : Situation)
      → Runs (for_each serve_slot (drop l.slot-index l.fn.slots) (filling_of l.self l.fill)) (situation (g.R.DeviceRing.contents l.ring) (g.H.HostNet.contents l.host) (g.H.HostNet.faults l.host)) x t
      → Runs (for_each serve_slot l.fn.slots (filling_of l.fn.self l.fn.fill)) (situation (g.R.DeviceRing.contents l.fn.ring) (g.H.HostNet.contents l.fn.host) (g.H.HostNet.faults l.fn.host)) x t;
  may : MayRun (for_each serve_slot (drop l.slot-index l.fn.slots) (filling_of l.self l.fill)) (situation (g.R.DeviceRing.contents l.ring) (g.H.HostNet.contents l.host) (g.H.HostNet.faults l.host));
  ring : IsRingOf (g.R.DeviceRing.held l.ring) l.self;
  small : l.fill.put ≤ l.fn.fill.put + 5 * l.slot-index;
  read : l.fill.read ≤ l.fn.fill.read + PAYLOAD_MAX * l.slot-index;
}
