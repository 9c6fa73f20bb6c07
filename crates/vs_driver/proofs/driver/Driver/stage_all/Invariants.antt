use Rattle.std.{proofs.Common.{◌≡◌, ◌+◌, ◌-◌, ◌<◌, [], length}, specs.List.All}
use Rattle.vs_contents.specs.CallTree.{while_up_to}
use Rattle.vs_ring_port.specs.{Counts.{no_counts, with_count}, Contents.RingContents}
use Rattle.vs_driver_parts.specs.{State.DriverState, Conversations.{posts, post_one}, Playing.{MayPublishAll, Plays}}
use Rattle.vs_limits.specs.declared.TheConstants.{STAGED_MAX}
use Rattle.vs_driver.proofs.driver.Driver.stage_all.Given as goal

-- whatever completes the rest completes the whole
abbrev pub invariant-loop : goal.invariant-loop
invariant-loop g l = record {
  goes_on : (x : DriverState) (t : RingContents) → Plays (while_up_to (l.size - l.counter) (post_one l.queue) l.self) (g.R.DriverRing.contents l.ring) x t → Plays (posts l.queue l.fn.self) (g.R.DriverRing.contents l.fn.ring) x t;
  may : MayPublishAll (while_up_to (l.size - l.counter) (post_one l.queue) l.self) (g.R.DriverRing.contents l.ring);
  same_size : g.R.DriverRing.size l.ring ≡ g.R.DriverRing.size l.fn.ring;
  size : l.size ≡ g.R.DriverRing.size l.fn.ring;
  left : length l.pages.items + l.counter ≡ l.size;
  empty : All (λ page. page ≡ []) l.pages.items;
  flight : g.R.DriverRing.flight l.ring ≡ with_count l.queue l.counter (g.R.DriverRing.flight l.fn.ring);
  staged : g.R.DriverRing.staged l.ring ≡ with_count l.queue l.self.staged no_counts;
  few : l.self.staged < STAGED_MAX;
  state : l.self ≡ record l.fn.self { staged = l.self.staged };
}
