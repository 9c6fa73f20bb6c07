use Rattle.std.proofs.Common.{◌≡◌, ◌-◌}
use Rattle.vs_contents.specs.CallTree.{while_up_to}
use Rattle.vs_ring_port.specs.Contents.{RingContents}
use Rattle.vs_driver_parts.specs.{State.DriverState, Conversations.reap_one, Conversations.reap_all, Playing.IsRingOf, Playing.Plays}
use Rattle.vs_driver.proofs.driver.Driver.reap_all.Given as goal

-- whatever completes the rest completes the whole
abbrev pub invariant-loop : goal.invariant-loop
invariant-loop g l = record {
  goes_on : (new : DriverState) (t : RingContents) → Plays (while_up_to (l.most - l.counter) reap_one l.self) (g.R.DriverRing.contents l.ring) new t → Plays (reap_all l.fn.self) (g.R.DriverRing.contents l.fn.ring) new t;
  ring : IsRingOf (g.R.DriverRing.size l.ring) (g.R.DriverRing.flight l.ring) (g.R.DriverRing.staged l.ring) l.self;
  others : l.self ≡ record l.fn.self { in_flight = l.self.in_flight };
}
