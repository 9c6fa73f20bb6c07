-- What both ends of standard rings count.
use Rattle.std.specs.Prelude.{◌≡◌}
use Rattle.vs_ring_port.specs.Chains.{chains_of}
use Rattle.vs_ring_list.specs.Ends.{Ends, flight_of, staged_of}
use Rattle.vs_ring_plain.specs.Device.{chains_held}
use Rattle.laws_plain_rings.specs.Parts.{PartsState, parts_flight, parts_staged}

-- The places of a queue, the pages in flight, those staged and the chains held are those of the lists.
pub record AreCounted (p : PartsState) (w : Ends) : Type 0 where
  pub size : p.device.size ≡ w.lists.size
  pub flight : parts_flight p ≡ flight_of w
  pub staged : parts_staged p ≡ staged_of w
  pub held : chains_held p.device ≡ chains_of w.device.held
