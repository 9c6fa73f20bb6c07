-- Two ends: what the peer was allowed to put is allowed when it is got.
use Rattle.std.proofs.lemmas.Grind.{common_steps}
use Rattle.std.proofs.Common.{◌≡◌, ◌+◌, ◌-◌, ◌≤◌, Bool, true, false, List, [], ◌∷◌, ◌++◌, refl, sym, ap, ◌∙◌, subst, subst₂, append_assoc, arith}
use Rattle.laws_history.specs.{History.{Answerer, Asker, Got, HasGot, History, IsNext, MayPut, Put, Side, gots, peer, puts}, Again.{AllowsNext, IsFairAll, MayPutNext, after}}
use Rattle.laws_history.specs.{Again.{count, now_got, now_put, since_request}, declared.packet.Packet.Packet, Packets.{allowance, bytes, is_clean_rst, is_request, is_rst, size}}
use Rattle.laws_history.proofs.{Fair.AllRise, Ties.{later, may_put_later}, Lists.{after_more, count_append, since_more}, FairPairs.{answers_only, counts_answerer, counts_asker}}
use Rattle.laws_history.proofs.FairPairs.{open_answerer, rises_answerer, rises_asker}

-- The history as it was when a packet was put.
record PutAt (side : Side) (h : History) (front : List Packet) (p : Packet) : Type 0 where
  before : History
  fair : IsFairAll side before
  put_before : puts before ≡ front
  later : List Packet
  got_later : gots h ≡ later ++ gots before
  may : MayPutNext side (puts before) (gots before) p

put_at : (side : Side) (h : History) (rest front : List Packet) (p : Packet) → IsFairAll side h → puts h ≡ rest ++ p ∷ front
    → PutAt side h front p
put_at side [] [] front p fair is = absurd cc
put_at side [] (r ∷ rest) front p fair is = absurd cc
put_at side (Put q ∷ h) [] front p fair is =
    let same : q ≡ p = cc in
    record {
      before = h;
      fair = fair.1;
      put_before = cc;
      later = [];
      got_later = refl;
      may = subst (MayPutNext side (puts h) (gots h)) same
          fair.0;
    }
put_at side (Put q ∷ h) (r ∷ rest) front p fair is =
    let at = put_at side h rest front p fair.1 cc in
    record { before = at.before; fair = at.fair; put_before = at.put_before; later = at.later; got_later = at.got_later; may = at.may }
put_at side (Got q ∷ h) rest front p fair is =
    let at = put_at side h rest front p fair.1 is in
    record {
      before = at.before;
      fair = at.fair;
      put_before = at.put_before;
      later = q ∷ at.later;
      got_later = ap (λ ps. q ∷ ps)
          at.got_later;
      may = at.may;
    }

-- What an end got more belongs to the present connection.
record SameNow (side : Side) (put more older : List Packet) : Type 0 where
  put_same : now_put side put (more ++ older) ≡ now_put side put older
  got_more : now_got side put (more ++ older) ≡ more ++ now_got side put older

same_asker : (put more older : List Packet) → count is_request put ≤ count is_clean_rst older + 1 → SameNow Asker put more older
same_asker put more older most = grind (arith, common_steps, after_more)

same_answerer : (put more older : List Packet) → count is_request more ≡ 0 → SameNow Answerer put more older
same_answerer put more older none =
    let same : count is_request (more ++ older) ≡ count is_request older = omega (arith, count_append is_request more older) in
    record {
      put_same = ap (λ n. after (n - 1) put) same;
      got_more = since_more more older none;
    }

-- What an end may put that isn't a REQUEST, it may also put after it got more.
later_going : (side : Side) (put more older : List Packet) (p : Packet) → is_request p ≡ false → SameNow side put more older
    → AllRise (now_got side put (more ++ older))
    → MayPutNext side put older p → MayPutNext side put (more ++ older) p
later_going side put more older p other same rises may = record {
  opens = λ e. let bad : true ≡ false = sym e ∙ other in absurd cc;
  goes_on = λ e.
      let on = may_put_later side (now_put side put older) (now_got side put older) (more ++ now_got side put older) p
      (later more (now_got side put older) (subst AllRise same.got_more rises)) (may.goes_on e) in
      subst₂ (λ ps qs. MayPut side ps qs p) (sym same.put_same) (sym same.got_more) on;
}

later_opening : (side : Side) (put more older : List Packet) (p : Packet) → is_request p ≡ true
    → count is_clean_rst (more ++ older) ≡ count is_clean_rst older
    → MayPutNext side put older p → MayPutNext side put (more ++ older) p
later_opening side put more older p asks same may = grind (arith, common_steps)

-- Mine is the asker: the answerer's packet.
asker_gets : (mine : History) (more older : List Packet) (p : Packet) → IsFairAll Asker mine → puts mine ≡ more ++ older
    → MayPutNext Answerer (gots mine) older p → MayPutNext Answerer (gots mine) (more ++ older) p
asker_gets mine more older p fair all may =
    let other = answers_only (gots mine) older p may in
    let opened = open_answerer (gots mine) older p may in
    let most : count is_request (more ++ older) ≤ count is_clean_rst (gots mine) + 1 = subst
    (λ ps. count is_request ps ≤ count is_clean_rst (gots mine) + 1) all (counts_asker mine fair) in
    let none : count is_request more ≡ 0 = omega (arith, count_append is_request more older) in
    later_going Answerer (gots mine) more older p other (same_answerer (gots mine) more older none)
    (subst (λ ps. AllRise (since_request ps)) all (rises_asker mine fair)) may

-- Mine is the answerer: the asker's packet.
answerer_by : (b : Bool) (mine : History) (more older : List Packet) (p : Packet) → is_request p ≡ b → IsFairAll Answerer mine
    → puts mine ≡ more ++ older
    → count is_request (gots mine) ≤ count is_clean_rst older + 1 → MayPutNext Asker (gots mine) older p
    → MayPutNext Asker (gots mine) (more ++ older) p
answerer_by true mine more older p asks fair all most may =
    let closed : count is_clean_rst (more ++ older) ≤ count is_request (gots mine) = subst
    (λ ps. count is_clean_rst ps ≤ count is_request (gots mine)) all (counts_answerer mine fair) in
    later_opening Asker (gots mine) more older p asks (omega (arith, count_append is_clean_rst more older, (may.opens asks).over)) may
answerer_by false mine more older p other fair all most may =
    later_going Asker (gots mine) more older p other (same_asker (gots mine) more older most)
    (subst (λ ps. AllRise (after (count is_request (gots mine) - 1) ps)) all (rises_answerer mine fair)) may

-- The next packet that the other put is allowed here.
allowed : (side : Side) (mine : History) (before : History) (more : List Packet) (p : Packet) → IsFairAll side mine
    → IsFairAll (peer side) before
    → puts before ≡ gots mine → puts mine ≡ more ++ gots before → MayPutNext (peer side) (puts before) (gots before) p
    → MayPutNext (peer side) (gots mine) (more ++ gots before) p
allowed Asker mine before more p fair fair_before same all may =
    asker_gets mine more (gots before) p fair all (subst (λ ps. MayPutNext Answerer ps (gots before) p) same may)
allowed Answerer mine before more p fair fair_before same all may =
    answerer_by (is_request p) mine more (gots before) p refl fair all
    (subst (λ ps. count is_request ps ≤ count is_clean_rst (gots before) + 1) same (counts_asker before fair_before))
    (subst (λ ps. MayPutNext Asker ps (gots before) p) same may)

pub next_allowed : (side : Side) (mine other : History) (p : Packet) → IsFairAll side mine → IsFairAll (peer side) other
    → IsNext mine other p → HasGot other mine → AllowsNext side mine (Got p)
next_allowed side mine other p fair_mine fair_other next got =
    let at = put_at (peer side) other next.0 (gots mine) p fair_other next.1 in
    let all : puts mine ≡ (got.0 ++ at.later) ++ gots at.before =
    got.1 ∙ ap (λ ps. got.0 ++ ps) at.got_later ∙ sym (append_assoc got.0 at.later (gots at.before)) in
    subst (λ ps. MayPutNext (peer side) (gots mine) ps p) (sym all)
    (allowed side mine at.before (got.0 ++ at.later) p fair_mine at.fair at.put_before all at.may)

pub next_fits : (side : Side) (mine : History) (p : Packet) → MayPutNext (peer side) (gots mine) (puts mine) p → is_request p ≡ false
    → is_rst p ≡ false
    → bytes (now_got side (puts mine) (gots mine)) + size p ≤ allowance (now_put side (puts mine) (gots mine))
next_fits Asker mine p may going other = ((may.goes_on going).honest other).fits
next_fits Answerer mine p may going other = ((may.goes_on going).honest other).fits
