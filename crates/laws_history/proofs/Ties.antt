-- Two ends: what the peer was allowed to put is allowed when it is got.
use Rattle.std.proofs.{Common.{◌≡◌, ◌≤◌, Bool, true, Option, List, [], ◌∷◌, ◌++◌, refl, sym, ap, ◌∙◌, subst, append_assoc, arith}, lemmas.Grind.common_steps}
use Rattle.vs_header.specs.declared.Op.{Op}
use Rattle.laws_history.specs.{Packets.{asked_kind, has_both, is_request, bytes, has, told_forwarded, told_alloc}, History.{History, Put, Got, Side, Asker, Answerer, peer, puts}}
use Rattle.laws_history.{specs.{History.{gots, of_asker, is_begun, IsTimely, IsHonest, MayPut, Allows, IsFair, HasGot, IsNext}, declared.packet.Packet.Packet}, proofs.Fair.AllRise}
use Rattle.laws_history.proofs.Fair.{fair_rises}

-- What older packets say, more say too.
pub record Later (older ps : List Packet) : Type 0 where
  pub forwarded : told_forwarded older ≤ told_forwarded ps
  pub alloc : told_alloc older ≤ told_alloc ps
  pub bytes_more : bytes older ≤ bytes ps
  pub has_more : (test : Packet → Bool) → has test older ≡ true → has test ps ≡ true
  pub kind_same : has is_request older ≡ true → asked_kind older ≡ asked_kind ps

pub later : (more older : List Packet) → AllRise (more ++ older) → Later older (more ++ older)
later [] older r =
    record { forwarded = omega arith; alloc = omega arith; bytes_more = omega arith; has_more = λ test e. e; kind_same = λ e. refl }
later (p ∷ more) older r =
    let l = later more older r.1 in
    let rise = r.0 in
    record {
      forwarded = omega arith;
      alloc = omega arith;
      bytes_more = omega arith;
      has_more = λ test e. let there : has test (more ++ older) ≡ true = l.has_more test e in grind arith;
      kind_same = λ e. let there : has is_request (more ++ older) ≡ true = l.has_more is_request e in l.kind_same e ∙ (rw there refl);
    }

-- The connection's type stays.
kind_later : (side : Side) (put older ps : List Packet) → Later older ps → is_begun side put older ≡ true
    → asked_kind (of_asker side put older) ≡ asked_kind (of_asker side put ps)
kind_later Asker put older ps l begun = refl
kind_later Answerer put older ps l begun = l.kind_same begun

begun_later : (side : Side) (put older ps : List Packet) → Later older ps → is_begun side put older ≡ true → is_begun side put ps ≡ true
begun_later Asker put older ps l begun = begun
begun_later Answerer put older ps l begun = l.has_more is_request begun

timely_later : (side : Side) (put older ps : List Packet) (o : Option Op) → Later older ps → IsTimely side put older o
    → IsTimely side put ps o
timely_later = grind (arith, common_steps)

honest_later : (put older ps : List Packet) (p : Packet) → Later older ps → IsHonest put older p → IsHonest put ps p
honest_later = grind (arith, common_steps)

both_later : (older ps : List Packet) → Later older ps → has_both older ≡ true → has_both ps ≡ true
both_later = grind (arith, common_steps)

-- What an end may put, it may also put after it got more.
pub may_put_later : (side : Side) (put older ps : List Packet) (p : Packet) → Later older ps → MayPut side put older p
    → MayPut side put ps p
may_put_later side put older ps p l m = grind (arith, common_steps)

-- The history as it was when a packet was put.
record PutAt (side : Side) (h : History) (front : List Packet) (p : Packet) : Type 0 where
  before : History
  put_before : puts before ≡ front
  after : List Packet
  got_after : gots h ≡ after ++ gots before
  may : MayPut side (puts before) (gots before) p

put_at : (side : Side) (h : History) (rest front : List Packet) (p : Packet) → IsFair side h → puts h ≡ rest ++ p ∷ front
    → PutAt side h front p
put_at side [] [] front p fair is = absurd cc
put_at side [] (r ∷ rest) front p fair is = absurd cc
put_at side (Put q ∷ h) [] front p fair is =
    let same : q ≡ p = cc in
    record { before = h; put_before = cc; after = []; got_after = refl; may = subst (MayPut side (puts h) (gots h)) same fair.0 }
put_at side (Put q ∷ h) (r ∷ rest) front p fair is =
    let at = put_at side h rest front p fair.1 cc in
    record { before = at.before; put_before = at.put_before; after = at.after; got_after = at.got_after; may = at.may }
put_at side (Got q ∷ h) rest front p fair is =
    let at = put_at side h rest front p fair.1 is in
    record {
      before = at.before;
      put_before = at.put_before;
      after = q ∷ at.after;
      got_after = ap (λ ps. q ∷ ps) at.got_after;
      may = at.may;
    }

-- The next packet that the other put is allowed here.
pub next_allowed : (side : Side) (mine other : History) (p : Packet) → IsFair side mine → IsFair (peer side) other
    → IsNext mine other p → HasGot other mine → Allows side mine (Got p)
next_allowed side mine other p fair_mine fair_other next got =
    let at = put_at (peer side) other next.0 (gots mine) p fair_other next.1 in
    let older = gots at.before in
    let all : puts mine ≡ (got.0 ++ at.after) ++ older =
    got.1 ∙ ap (λ ps. got.0 ++ ps) at.got_after ∙ sym (append_assoc got.0 at.after older) in
    let l = subst (Later older) (sym all) (later (got.0 ++ at.after) older (subst AllRise all (fair_rises side mine fair_mine))) in
    may_put_later (peer side) (gots mine) older (puts mine) p l (subst (λ ps. MayPut (peer side) ps older p) at.put_before at.may)
