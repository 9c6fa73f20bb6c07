-- Fairness between guests. What stands between them keeps no connections, and passes on the RSTs of those that it refused.
use Rattle.std.specs.Prelude.{◌≡◌, ◌==◌, ◌&&◌, not, Bool, false, if◌then◌else◌, List, [], ◌∷◌}
use Rattle.vs_header.specs.declared.TheConstants.{CLEAN}
use Rattle.laws_history.specs.{declared.packet.Packet.Packet, Packets.{is_rst, IsFormed}, History.{History, Put, Got, Entry, Side, peer, puts, gots}}
use Rattle.laws_history.specs.Again.{MayPutNow, present}

-- An RST without the mark, and packets without those.
abbrev pub is_plain_rst : Packet → Bool
is_plain_rst p = is_rst p && not (p.header.flags == CLEAN)

abbrev pub steady : List Packet → List Packet
steady [] = []
steady (p ∷ ps) = if is_plain_rst p then steady ps else p ∷ steady ps

-- The entries without them.
abbrev pub steadied : History → History
steadied [] = []
steadied (Put p ∷ h) = if is_plain_rst p then steadied h else Put p ∷ steadied h
steadied (Got p ∷ h) = if is_plain_rst p then steadied h else Got p ∷ steadied h

-- An end of this side that put and got these on the present connection may put this packet, where another guest is at the other end. A plain
-- RST may come whenever, also before any REQUEST, and has any type. All else keeps to the rules, as if no plain RST had passed.
pub record MayPutBeside (side : Side) (put got : List Packet) (p : Packet) : Type 0 where
  pub formed : IsFormed p
  pub steadily : is_plain_rst p ≡ false → MayPutNow side (steady put) (steady got) p

abbrev pub AllowsBeside : Side → History → Entry → Type 0
AllowsBeside side now (Put p) = MayPutBeside side (puts now) (gots now) p
AllowsBeside side now (Got p) = MayPutBeside (peer side) (gots now) (puts now) p

-- Each entry is allowed by what passed before it on the present connection: from the newest REQUEST on, or from the first entry where there is
-- none yet.
abbrev pub IsFairBeside : Side → History → Type 0
IsFairBeside side [] = Unit {0}
IsFairBeside side (entry ∷ before) = AllowsBeside side (present before) entry × IsFairBeside side before
