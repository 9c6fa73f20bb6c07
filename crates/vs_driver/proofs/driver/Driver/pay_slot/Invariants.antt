use Rattle.std.proofs.Common.{◌+◌, ◌-◌, ◌≤◌}
use Rattle.vs_contents.specs.CallTree.{while_up_to}
use Rattle.vs_ring_port.specs.{declared.queue.Queue.TheVariants.Tx, Contents.RingContents}
use Rattle.vs_driver_parts.specs.{Conversations.{Round, round_of, pay_slot, put_owed}, Playing.{IsAtWork, MayPublishAll, Plays}}
use Rattle.vs_driver.proofs.driver.Driver.pay_slot.Given as goal
use Rattle.vs_limits.specs.declared.TheConstants.{OWED_MAX}

-- whatever completes the rest completes the whole
abbrev pub invariant-loop : goal.invariant-loop
invariant-loop g l = record {
  goes_on : (x : Round) (t : RingContents) → Plays (while_up_to (OWED_MAX - l.counter) (put_owed l.slot) (round_of l.self l.tally)) (g.R.DriverRing.contents l.ring) x t → Plays (pay_slot l.slot (round_of l.fn.self l.fn.tally)) (g.R.DriverRing.contents l.fn.ring) x t;
  may : MayPublishAll (while_up_to (OWED_MAX - l.counter) (put_owed l.slot) (round_of l.self l.tally)) (g.R.DriverRing.contents l.ring);
  ring : IsAtWork Tx (g.R.DriverRing.size l.ring) (g.R.DriverRing.flight l.ring) (g.R.DriverRing.staged l.ring) l.self;
  small : l.tally.count ≤ l.fn.tally.count + l.counter;
}
