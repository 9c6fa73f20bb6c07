-- Packets come in order where no flow is used again.
use Rattle.std.proofs.{lemmas.Grind.common_steps, Common.{arith, ◌≡◌, Bool, true, false, ◌||◌, if◌then◌else◌, [], ◌∷◌, refl, sym, ◌∙◌}}
use Rattle.laws_history.specs.{Packets.has, Packets.is_clean_rst, Packets.is_request, declared.packet.Packet.Packet, Again.present}
use Rattle.laws_history.specs.History.{Answerer, Asker, Entry, Got, History, Put, Side, gots}
use Rattle.laws_tables.specs.Heard.{AsksOnce, IsOrdered, StopsAtMark, is_awaiting, is_empty}

-- What passed on the present connection is a part of all that passed, and not nothing.
some_present : (entry : Entry) (w : History) → is_empty (present (entry ∷ w)) ≡ false
some_present = grind (arith, common_steps)

no_mark : (w : History) → has is_clean_rst (gots w) ≡ false → has is_clean_rst (gots (present w)) ≡ false
no_mark [] none = refl
no_mark (Put p ∷ w) none = by (is_request p) (no_mark w none)
  where
    by : (b : Bool) → has is_clean_rst (gots (present w)) ≡ false
        → has is_clean_rst (gots (if b then Put p ∷ [] else Put p ∷ present w)) ≡ false
    by true older = refl
    by false older = older
no_mark (Got p ∷ w) none = by (is_request p) (is_clean_rst p) refl none (no_mark w)
  where
    by : (b mark : Bool) → is_clean_rst p ≡ mark → (mark || has is_clean_rst (gots w)) ≡ false
        → (has is_clean_rst (gots w) ≡ false → has is_clean_rst (gots (present w)) ≡ false)
        → has is_clean_rst (gots (if b then Got p ∷ [] else Got p ∷ present w)) ≡ false
    by b true is none older = absurd cc
    by true false is none older = rw is refl
    by false false is none older = rw is (older none)

awaiting : (h : History) → is_empty h ≡ false → has is_clean_rst (gots h) ≡ false → is_awaiting h ≡ true
awaiting h some none = rw some (rw none refl)

first_put : (side : Side) (p : Packet) → AsksOnce side (Put p ∷ []) → is_request p ≡ true
first_put = grind (arith, common_steps)

first_got : (side : Side) (p : Packet) → AsksOnce side (Got p ∷ []) → (side ≡ Answerer)
first_got = grind (arith, common_steps)

pub once_ordered : (side : Side) (w : History) → AsksOnce side w → StopsAtMark side w → IsOrdered side w
once_ordered side [] once stops = tt
once_ordered side (Put p ∷ []) once stops =
    (λ other. (let both : true ≡ false = sym (first_put side p once) ∙ other in absurd cc), tt)
once_ordered side (Put p ∷ older ∷ w) once stops = (λ other. some_present older w, once_ordered side (older ∷ w) once.1 stops)
once_ordered side (Got p ∷ []) once stops = (
  record {
    request = λ is. (first_got side p once, refl);
    asked = λ asker. (let both : Asker ≡ Answerer = sym asker ∙ first_got side p once in absurd cc);
  },
  tt,
)
once_ordered side (Got p ∷ older ∷ w) once stops = (
  record {
    request = λ is. (let both : true ≡ false = sym is ∙ once.0 in absurd cc);
    asked = λ asker. awaiting (present (older ∷ w)) (some_present older w) (no_mark (older ∷ w) (stops.0 asker));
  },
  once_ordered side (older ∷ w) once.1 stops.1,
)
