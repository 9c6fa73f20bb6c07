use Rattle.std.proofs.Common.{◌≡◌, ◌+◌, ◌-◌, ◌≤◌, false}
use Rattle.vs_contents.specs.CallTree.{while_up_to}
use Rattle.vs_device_parts.specs.{Calls.Situation, Filling.filling_of, Playing.{IsRingOf, MayRun, Runs, situation}, Receiving.{Filling, put_owed}}
use Rattle.vs_limits.specs.declared.TheConstants.{OWED_MAX}
use Rattle.vs_device.proofs.device.Device.put_all_owed.Given as goal

-- whatever completes the rest completes the whole
abbrev pub invariant-loop : goal.invariant-loop
invariant-loop g l = record {
  goes_on : (x : Filling) (t : Situation) → Runs (while_up_to (OWED_MAX - l.counter) (put_owed l.slot) (filling_of l.self l.fill)) (situation (g.R.DeviceRing.contents l.ring) (g.H.HostNet.contents l.host) (g.H.HostNet.faults l.host)) x t
      → Runs (while_up_to OWED_MAX (put_owed l.slot) (filling_of l.fn.self l.fn.fill)) (situation (g.R.DeviceRing.contents l.fn.ring) (g.H.HostNet.contents l.fn.host) (g.H.HostNet.faults l.fn.host)) x t;
  may : MayRun (while_up_to (OWED_MAX - l.counter) (put_owed l.slot) (filling_of l.self l.fill)) (situation (g.R.DeviceRing.contents l.ring) (g.H.HostNet.contents l.host) (g.H.HostNet.faults l.host));
  ring : IsRingOf (g.R.DeviceRing.held l.ring) l.self;
  going : l.fill.over ≡ false;
  small : l.fill.put ≤ l.fn.fill.put + l.counter;
  read : l.fill.read ≡ l.fn.fill.read;
}
