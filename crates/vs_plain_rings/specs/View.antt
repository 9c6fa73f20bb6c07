-- How both ends of standard rings are seen, and what is true of them.
use Rattle.std.specs.Prelude.{◌≡◌, ◌≤◌}
use Rattle.vs_limits.specs.declared.TheConstants.{GUEST_CID_MIN, GUEST_CID_MAX}
use Rattle.vs_plain_driver.specs.View.{ArePagesIn}
use Rattle.vs_plain_rings.specs.declared.parts.Parts.TheInside.{Inside}
use Rattle.laws_plain_rings.specs.Parts.{PartsState}

abbrev pub parts_in : Inside → PartsState
parts_in p = record { device = p.device; rx = p.rx; tx = p.tx; event = p.event; cid = p.cid }

-- The driver's queues have the size of the device's, their pages lie in the memory where they have places there, and the CID is a guest's.
pub record AreInOrder (p : PartsState) : Type 0 where
  pub rx_size : p.rx.n ≡ p.device.size
  pub tx_size : p.tx.n ≡ p.device.size
  pub event_size : p.event.n ≡ p.device.size
  pub rx_pages : ArePagesIn p.rx p.device.memory
  pub tx_pages : ArePagesIn p.tx p.device.memory
  pub event_pages : ArePagesIn p.event p.device.memory
  pub low : GUEST_CID_MIN ≤ p.cid
  pub high : p.cid ≤ GUEST_CID_MAX

abbrev pub IsInOrder : Inside → Type 0
IsInOrder p = AreInOrder (parts_in p)
