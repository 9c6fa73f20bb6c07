use Rattle.std.proofs.Common.{◌≡◌, ◌-◌, ◌≤◌}
use Rattle.vs_contents.specs.CallTree.{while_up_to}
use Rattle.vs_device_parts.specs.{Calls.Situation, Playing.IsItsRing, Playing.MayRun, Playing.Runs, Playing.situation}
use Rattle.vs_proxy_parts.specs.{State.Turning, Turning.CountsFew, Turning.turning_of, Turns.take_one, Turns.take_stage}
use Rattle.vs_proxy.proofs.proxy.Proxy.take_packets.Given as goal

-- whatever completes the rest completes the whole
abbrev pub invariant-loop : goal.invariant-loop
invariant-loop g l = record {
  goes_on : (x : Turning) (t : Situation)
      → Runs (while_up_to (l.size - l.counter) take_one (turning_of l.self l.tally)) (situation (g.R.DeviceRing.contents l.ring) (g.H.HostNet.contents l.host) (g.H.HostNet.faults l.host)) x t
      → Runs (take_stage l.size (turning_of l.fn.self l.fn.tally)) (situation (g.R.DeviceRing.contents l.fn.ring) (g.H.HostNet.contents l.fn.host) (g.H.HostNet.faults l.fn.host)) x t;
  may : MayRun (while_up_to (l.size - l.counter) take_one (turning_of l.self l.tally)) (situation (g.R.DeviceRing.contents l.ring) (g.H.HostNet.contents l.host) (g.H.HostNet.faults l.host));
  ring : IsItsRing (g.R.DeviceRing.held l.ring) l.self.device;
  small : l.tally.took ≤ l.counter;
  others : l.tally ≡ record l.fn.tally { took = l.tally.took };
  opened : CountsFew l.counter l.counter l.fn.self.device l.self.device;
  within : l.counter ≤ l.size;
}
