use Rattle.std.proofs.Common.{◌-◌, ◌≤◌}
use Rattle.vs_contents.specs.CallTree.{while_up_to}
use Rattle.vs_ring_port.specs.{declared.queue.Queue.TheVariants.Rx, Contents.RingContents}
use Rattle.vs_driver_parts.specs.{Conversations.{Round, round_of, all_taken, take_packet}, Playing.{IsAtWork, MayPublishAll, Plays}}
use Rattle.vs_driver.proofs.driver.Driver.stage_packets.Given as goal

-- whatever completes the rest completes the whole
abbrev pub invariant-loop : goal.invariant-loop
invariant-loop g l = record {
  goes_on : (x : Round) (t : RingContents) → Plays (while_up_to (l.most - l.counter) take_packet (round_of l.self l.tally)) (g.R.DriverRing.contents l.ring) x t → Plays (all_taken take_packet l.fn.self) (g.R.DriverRing.contents l.fn.ring) x t;
  may : MayPublishAll (while_up_to (l.most - l.counter) take_packet (round_of l.self l.tally)) (g.R.DriverRing.contents l.ring);
  ring : IsAtWork Rx (g.R.DriverRing.size l.ring) (g.R.DriverRing.flight l.ring) (g.R.DriverRing.staged l.ring) l.self;
  small : l.tally.count ≤ l.counter;
}
