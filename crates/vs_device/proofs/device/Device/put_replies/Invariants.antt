use Rattle.std.proofs.Common.{◌≡◌, ◌-◌, ◌≤◌, ℕ, false, length, Option}
use Rattle.vs_contents.specs.CallTree.{while_up_to}
use Rattle.vs_outside.specs.Host.{HostContents}
use Rattle.vs_device_parts.specs.{Calls.Situation, Filling.filling_of, Playing.{IsRingOf, MayRunOnRing, Runs, situation}, Receiving.{Filling, put_reply}}
use Rattle.vs_limits.specs.declared.TheConstants.{DEVICE_REPLIES}
use Rattle.vs_device.proofs.device.Device.put_replies.Given as goal

-- whatever completes the rest completes the whole
abbrev pub invariant-loop : goal.invariant-loop
invariant-loop g l = record {
  goes_on : (host : Option HostContents) (faults : ℕ) (x : Filling) (t : Situation)
      → Runs (while_up_to (l.most - l.counter) put_reply (filling_of l.self l.fill)) (situation (g.R.DeviceRing.contents l.ring) host faults) x t
      → Runs (while_up_to (length l.fn.self.replies) put_reply (filling_of l.fn.self l.fn.fill)) (situation (g.R.DeviceRing.contents l.fn.ring) host faults) x t;
  may : MayRunOnRing (while_up_to (l.most - l.counter) put_reply (filling_of l.self l.fill)) (g.R.DeviceRing.contents l.ring);
  ring : IsRingOf (g.R.DeviceRing.held l.ring) l.self;
  going : l.fill.over ≡ false;
  small : l.fill.put ≤ l.counter;
  read : l.fill.read ≡ 0;
  most : l.most ≤ DEVICE_REPLIES;
}
