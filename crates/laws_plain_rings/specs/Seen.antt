-- A ring that exposes its lists and logs.
use Rattle.std.specs.Prelude.{◌≡◌, Some}
use Rattle.vs_ring_port.specs.Contents.{RingContents}
use Rattle.vs_ring_list.specs.Ends.{Ends}

-- Its driver's end exposes the lists, its own log and the device's; and its device's end. The plain state plays no part.
pub record ShowsDriver (w : Ends) (c : RingContents) : Type 0 where
  pub lists : c.lists ≡ Some w.lists
  pub log : c.log ≡ Some w.driver
  pub other : c.other ≡ Some w.device

pub record ShowsDevice (w : Ends) (c : RingContents) : Type 0 where
  pub lists : c.lists ≡ Some w.lists
  pub log : c.log ≡ Some w.device
  pub other : c.other ≡ Some w.driver
