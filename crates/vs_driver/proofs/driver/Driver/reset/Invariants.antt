use Rattle.std.proofs.Common.{◌≡◌, ◌+◌, ◌≤◌, length}
use Rattle.vs_limits.specs.declared.TheConstants.{DRIVER_REPLIES}
use Rattle.vs_driver_parts.specs.{Playing.SamePages, Receiving.all_left, Receiving.after_reset}
use Rattle.vs_driver.proofs.driver.Driver.reset.Given as goal

-- those that are left leave as all do, and there is room for a reply to each
abbrev pub invariant-loop-slot : goal.invariant-loop-slot
invariant-loop-slot l = record {
  same : all_left l.self.table.entries l.self ≡ after_reset l.cid l.fn.self;
  room : length l.self.replies + length l.self.table.entries ≤ DRIVER_REPLIES;
  pages : SamePages l.fn.self l.self;
}

abbrev pub decreases-loop-slot : goal.decreases-loop-slot
decreases-loop-slot l = length l.self.table.entries
