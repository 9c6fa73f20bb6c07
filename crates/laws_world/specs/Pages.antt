-- What the pages of the transmit queue hold.
use Rattle.std.specs.Prelude.{◌≡◌, ◌≤◌, ◌+◌, ℕ, List, [], ◌∷◌, length, Some}
use Rattle.vs_header.specs.declared.TheConstants.{HEADER_LEN}
use Rattle.laws_history.specs.declared.packet.Packet.{Packet}
use Rattle.vs_page.specs.Held.{packet_held}
use Rattle.vs_ring_port.specs.{DriverCalls.HoldsPacket, EndLog.EndLog, Lists.Rings}

-- A page holds a packet, with as many bytes as its header tells.
pub record PageHolds (page : List ℕ) : Type 0 where
  pub packet : Packet
  pub held : packet_held page ≡ Some packet
  pub long : HEADER_LEN + packet.header.len ≤ length page

abbrev pub AllHold : List (List ℕ) → Type 0
AllHold [] = Unit {0}
AllHold (page ∷ pages) = PageHolds page × AllHold pages

-- Of those given each does, and of those given and those staged each holds a packet and nothing more.
abbrev pub AllPacked : List (List ℕ) → Type 0
AllPacked [] = Unit {0}
AllPacked (page ∷ pages) = HoldsPacket page × AllPacked pages

abbrev pub TxHolds : Rings → EndLog → Type 0
TxHolds lists log = AllHold lists.tx.given × AllPacked log.staged.tx × AllPacked lists.tx.given
