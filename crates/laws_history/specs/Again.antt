-- Connections that use one pair of ports one after another. Histories and lists of packets run newest first.
use Rattle.std.specs.Prelude.{◌≡◌, ℕ, ◌+◌, ◌-◌, nat_le, Bool, true, false, if◌then◌else◌, List, [], ◌∷◌, ◌⊎◌}
use Rattle.laws_history.specs.{declared.packet.Packet.Packet, Packets.has, Packets.is_clean_rst, Packets.is_request, Packets.is_rst}
use Rattle.laws_history.specs.History.{History, Put, Got, Entry, Side, Asker, Answerer, peer, puts, gots, MayPut}

-- How many packets are of this kind.
abbrev pub count : (Packet → Bool) → List Packet → ℕ
count test [] = 0
count test (p ∷ ps) = if test p then count test ps + 1 else count test ps

-- The packets from the newest REQUEST on, and those that stand after n marked RSTs.
abbrev pub since_request : List Packet → List Packet
since_request [] = []
since_request (p ∷ ps) = if is_request p then p ∷ [] else p ∷ since_request ps

abbrev pub after : ℕ → List Packet → List Packet
after n [] = []
after n (p ∷ ps) = if nat_le n (count is_clean_rst ps) then p ∷ after n ps else []

-- What was put, and got, on the present connection. The asker's packets of it begin by its REQUEST; the answerer's stand after one marked
-- RST for each connection before.
abbrev pub now_put : Side → List Packet → List Packet → List Packet
now_put Asker put got = since_request put
now_put Answerer put got = after (count is_request got - 1) put

abbrev pub now_got : Side → List Packet → List Packet → List Packet
now_got Asker put got = after (count is_request put - 1) got
now_got Answerer put got = since_request got

-- A REQUEST opens the next connection once each one before was closed by a marked RST that the asker got, and the asker put no RST.
pub record MayOpen (side : Side) (put got : List Packet) (p : Packet) : Type 0 where
  pub over : count is_clean_rst got ≡ count is_request put
  pub not_reset : has is_rst (since_request put) ≡ false
  pub first : MayPut side [] [] p

-- Any other packet keeps to the rules of one connection.
pub record MayPutNext (side : Side) (put got : List Packet) (p : Packet) : Type 0 where
  pub opens : is_request p ≡ true → MayOpen side put got p
  pub goes_on : is_request p ≡ false → MayPut side (now_put side put got) (now_got side put got) p

abbrev pub AllowsNext : Side → History → Entry → Type 0
AllowsNext side before (Put p) = MayPutNext side (puts before) (gots before) p
AllowsNext side before (Got p) = MayPutNext (peer side) (gots before) (puts before) p

abbrev pub IsFairAll : Side → History → Type 0
IsFairAll side [] = Unit {0}
IsFairAll side (entry ∷ before) = AllowsNext side before entry × IsFairAll side before

-- The entries of the present connection: those from the newest REQUEST on.
abbrev pub present : History → History
present [] = []
present (Put p ∷ h) = if is_request p then Put p ∷ [] else Put p ∷ present h
present (Got p ∷ h) = if is_request p then Got p ∷ [] else Got p ∷ present h

-- The present connection is over cleanly, by what its asker put and got: it put no RST, and got a marked one.
pub record IsClean (put got : List Packet) : Type 0 where
  pub not_reset : has is_rst put ≡ false
  pub marked : has is_clean_rst got ≡ true

-- The same rules, of what passed on the present connection alone. A REQUEST comes first, or after a connection that is over cleanly.
abbrev pub MayOpenNow : Side → List Packet → List Packet → Packet → Type 0
MayOpenNow side put got p = (((put ≡ []) × (got ≡ [])) ⊎ IsClean put got) × MayPut side [] [] p

pub record MayPutNow (side : Side) (put got : List Packet) (p : Packet) : Type 0 where
  pub opens : is_request p ≡ true → MayOpenNow side put got p
  pub goes_on : is_request p ≡ false → MayPut side put got p

abbrev pub AllowsNow : Side → History → Entry → Type 0
AllowsNow side now (Put p) = MayPutNow side (puts now) (gots now) p
AllowsNow side now (Got p) = MayPutNow (peer side) (gots now) (puts now) p
