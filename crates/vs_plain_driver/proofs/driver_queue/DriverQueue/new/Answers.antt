use Rattle.std.proofs.Common.{rules}
use Rattle.vs_plain_driver.proofs.Sound.{sound_new}
use Rattle.vs_plain_driver.proofs.driver_queue.DriverQueue.new.Goals as goal

pub invariant_of-result : goal.invariant_of-result
invariant_of-result c = record {
  room = search rules;
  sound = rw (c.in_ok-pages.ensures, c.in_ok-free.ensures.items, c.size-n.ensures.value)
      (sound_new _ c.args.pages_at c.areas_of-areas.ensures.nonzero c.areas_of-areas.ensures.limit);
}
