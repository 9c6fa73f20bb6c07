-- What each end of rings shows, by their ends.
use Rattle.std.specs.Prelude.{◌≡◌, ℕ, List}
use Rattle.vs_ring_port.specs.{Chains.chains_of, Contents.RingContents, Counts.Counts, declared.device_ring.Chain.Chain}
use Rattle.vs_ring_list.specs.Ends.{Ends, device_contents, driver_contents, flight_of, staged_of}

-- The driver's end: its size, the pages in flight, those staged, and what it exposes.
pub record IsDriverOf (w : Ends) (size : ℕ) (flight staged : Counts) (contents : RingContents) : Type 0 where
  pub size_is : size ≡ w.lists.size
  pub flight_is : flight ≡ flight_of w
  pub staged_is : staged ≡ staged_of w
  pub exposes : contents ≡ driver_contents w

-- The device's end: its size, the chains that it holds, and what it exposes.
pub record IsDeviceOf (w : Ends) (size : ℕ) (held : List Chain) (contents : RingContents) : Type 0 where
  pub size_is : size ≡ w.lists.size
  pub held_is : held ≡ chains_of w.device.held
  pub exposes : contents ≡ device_contents w
