use Rattle.std.proofs.Common.{◌+◌, ◌*◌, ◌≤◌, length, drop}
use Rattle.vs_contents.specs.CallTree.{for_each}
use Rattle.vs_ring_port.specs.{declared.queue.Queue.TheVariants.Tx, Contents.RingContents}
use Rattle.vs_limits.specs.declared.TheConstants.{DRIVER_CONNECTIONS}
use Rattle.vs_driver_parts.specs.{Conversations.{Round, round_of, pay_all, pay_slot}, Playing.{IsAtWork, MayPublishAll, Plays}}
use Rattle.vs_driver.proofs.driver.Driver.pay_all.Given as goal

-- whatever completes the rest completes the whole
abbrev pub invariant-loop-slot : goal.invariant-loop-slot
invariant-loop-slot g l = record {
  goes_on : (x : Round) (t : RingContents) → Plays (for_each pay_slot (drop l.slot-index l.slot-items) (round_of l.self l.tally)) (g.R.DriverRing.contents l.ring) x t → Plays (pay_all (round_of l.fn.self l.fn.tally)) (g.R.DriverRing.contents l.fn.ring) x t;
  may : MayPublishAll (for_each pay_slot (drop l.slot-index l.slot-items) (round_of l.self l.tally)) (g.R.DriverRing.contents l.ring);
  ring : IsAtWork Tx (g.R.DriverRing.size l.ring) (g.R.DriverRing.flight l.ring) (g.R.DriverRing.staged l.ring) l.self;
  small : l.tally.count ≤ l.fn.tally.count + 4 * l.slot-index;
  few : length l.slot-items ≤ DRIVER_CONNECTIONS;
}
