-- What a fair history says of all that was put and got.
use Rattle.std.proofs.{Common.◌≤◌, Common.List, Common.[], Common.◌∷◌, Common.◌++◌, Common.arith, lemmas.Grind.common_steps}
use Rattle.laws_history.specs.{declared.packet.Packet.Packet, Packets.bytes, Packets.told_forwarded, Packets.told_alloc, Packets.allowance}
use Rattle.laws_history.specs.History.{History, Entry, Put, Got, Side, puts, gots, MayPut, Allows, IsFair, IsOpening}
use Rattle.vs_limits.specs.declared.TheConstants.{BUF_ALLOC_MAX}

-- What an end tells never falls.
pub record Rises (p : Packet) (ps : List Packet) : Type 0 where
  pub forwarded : told_forwarded ps ≤ told_forwarded (p ∷ ps)
  pub alloc : told_alloc ps ≤ told_alloc (p ∷ ps)

pub put_rises : (side : Side) (put got : List Packet) (p : Packet) → MayPut side put got p → Rises p put
put_rises = grind (arith, common_steps)

abbrev pub AllRise : List Packet → Type 0
AllRise [] = Unit {0}
AllRise (p ∷ ps) = Rises p ps × AllRise ps

pub fair_rises : (side : Side) (h : History) → IsFair side h → AllRise (puts h)
fair_rises side [] fair = tt
fair_rises side (Put p ∷ h) fair = (put_rises side (puts h) (gots h) p fair.0, fair_rises side h fair.1)
fair_rises side (Got p ∷ h) fair = fair_rises side h fair.1

-- All that was put is within the credit given, and tells no more than was got.
pub record Sound (put got : List Packet) : Type 0 where
  pub fits : bytes put ≤ allowance got
  pub forwarded : told_forwarded put ≤ bytes got
  pub alloc : told_alloc put ≤ BUF_ALLOC_MAX

-- Both directions of a history, and that they stay so when one more packet is put.
pub record BothSound (put got : List Packet) : Type 0 where
  pub out : Sound put got
  pub back : Sound got put

sound_put : (side : Side) (put got : List Packet) (p : Packet) → MayPut side put got p → BothSound put got → BothSound (p ∷ put) got
sound_put = grind (arith, common_steps)

turned : (put got : List Packet) → BothSound put got → BothSound got put
turned put got s = record { out = s.back; back = s.out }

pub sound : (side : Side) (h : History) → IsFair side h → BothSound (puts h) (gots h)
sound side [] fair = grind arith
sound side (Put p ∷ h) fair = sound_put side (puts h) (gots h) p fair.0 (sound side h fair.1)
sound side (Got p ∷ h) fair =
    turned (p ∷ gots h) (puts h) (sound_put _ (gots h) (puts h) p fair.0 (turned (puts h) (gots h) (sound side h fair.1)))

opens : (side : Side) (entry : Entry) → Allows side [] entry → IsOpening side entry
opens = grind (arith, common_steps)

pub fair_opens : (side : Side) (h : History) (entry : Entry) → IsFair side (h ++ entry ∷ []) → IsOpening side entry
fair_opens side [] entry fair = opens side entry fair.0
fair_opens side (y ∷ h) entry fair = fair_opens side h entry fair.1
