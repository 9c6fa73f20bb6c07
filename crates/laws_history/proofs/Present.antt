-- The present connection's entries.
use Rattle.std.proofs.Common.{◌≡◌, ◌+◌, ◌-◌, ◌≤◌, Bool, true, false, List, [], ◌∷◌, refl, sym, ap, ◌∙◌, subst, subst₂, arith}
use Rattle.laws_history.specs.{declared.packet.Packet.Packet, Packets.{is_clean_rst, is_request}, History.{Answerer, Asker, Got, History, IsFair, MayPut, Put, Side, gots, peer}}
use Rattle.laws_history.{specs.{History.puts, Again.{IsFairAll, MayPutNext, after, count, now_got, now_put, present, since_request}}, proofs.Lists.{after_step, since_step}}
use Rattle.laws_history.proofs.FairPairs.{answers_only, closed, counts_asker}

-- The other end's view of a history: each rule reads the same from there.
abbrev pub mirror : History → History
mirror [] = []
mirror (Put p ∷ h) = Got p ∷ mirror h
mirror (Got p ∷ h) = Put p ∷ mirror h

pub mirror_puts : (h : History) → puts (mirror h) ≡ gots h
mirror_puts [] = refl
mirror_puts (Put p ∷ h) = mirror_puts h
mirror_puts (Got p ∷ h) = ap (λ ps. p ∷ ps) (mirror_puts h)

pub mirror_gots : (h : History) → gots (mirror h) ≡ puts h
mirror_gots [] = refl
mirror_gots (Put p ∷ h) = ap (λ ps. p ∷ ps) (mirror_gots h)
mirror_gots (Got p ∷ h) = mirror_gots h

peer_peer : (side : Side) → side ≡ peer (peer side)
peer_peer Asker = refl
peer_peer Answerer = refl

pub mirror_fair : (side : Side) (h : History) → IsFairAll side h → IsFairAll (peer side) (mirror h)
mirror_fair side [] fair = tt
mirror_fair side (Put p ∷ h) fair = (
  subst (λ s. MayPutNext s (gots (mirror h)) (puts (mirror h)) p) (peer_peer side)
      (subst₂ (λ ps qs. MayPutNext side ps qs p) (sym (mirror_gots h)) (sym (mirror_puts h)) fair.0),
  mirror_fair side h fair.1,
)
mirror_fair side (Got p ∷ h) fair =
    (subst₂ (λ ps qs. MayPutNext (peer side) ps qs p) (sym (mirror_puts h)) (sym (mirror_gots h)) fair.0, mirror_fair side h fair.1)

-- The answerer got at most one REQUEST more than it closed connections, and the asker got nothing after the last was closed.
pub counts_got : (h : History) → IsFairAll Answerer h → count is_request (gots h) ≤ count is_clean_rst (puts h) + 1
counts_got h fair =
    subst₂ (λ ps qs. count is_request ps ≤ count is_clean_rst qs + 1) (mirror_puts h) (mirror_gots h)
    (counts_asker (mirror h) (mirror_fair Answerer h fair))

pub closed_got : (h : History) → IsFairAll Asker h → after (count is_request (puts h)) (gots h) ≡ []
closed_got h fair =
    subst₂ (λ ps qs. after (count is_request qs) ps ≡ []) (mirror_puts h) (mirror_gots h)
    (closed (mirror h) (count is_request (gots (mirror h))) (mirror_fair Asker h fair) (omega arith))

-- The packets of the present connection when one more is put or got.
record Now (side : Side) (put got put_after got_after : List Packet) : Type 0 where
  put_is : now_put side put got ≡ put_after
  got_is : now_got side put got ≡ got_after

count_same : (p : Packet) (ps : List Packet) → is_request p ≡ false → count is_request (p ∷ ps) ≡ count is_request ps
count_same p ps e = rw e

count_more : (p : Packet) (ps : List Packet) → is_request p ≡ true → count is_request (p ∷ ps) - 1 ≡ count is_request ps
count_more p ps e = rw e (omega arith)

since_new : (p : Packet) (ps : List Packet) → is_request p ≡ true → since_request (p ∷ ps) ≡ p ∷ []
since_new p ps e = rw e

now_put_more : (side : Side) (h : History) (p : Packet) → IsFairAll side h → is_request p ≡ false
    → Now side (p ∷ puts h) (gots h) (p ∷ now_put side (puts h) (gots h)) (now_got side (puts h) (gots h))
now_put_more Asker h p fair other = record {
  put_is = since_step p (puts h) other;
  got_is = ap (λ n. after (n - 1) (gots h)) (count_same p (puts h) other);
}
now_put_more Answerer h p fair other = record {
  put_is = after_step (count is_request (gots h) - 1) p (puts h) (omega (arith, counts_got h fair));
  got_is = refl;
}

now_got_more : (side : Side) (h : History) (p : Packet) → IsFairAll side h → is_request p ≡ false
    → Now side (puts h) (p ∷ gots h) (now_put side (puts h) (gots h)) (p ∷ now_got side (puts h) (gots h))
now_got_more Asker h p fair other = record {
  put_is = refl;
  got_is = after_step (count is_request (puts h) - 1) p (gots h) (omega (arith, counts_asker h fair));
}
now_got_more Answerer h p fair other = record {
  put_is = ap (λ n. after (n - 1) (puts h)) (count_same p (gots h) other);
  got_is = since_step p (gots h) other;
}

now_put_new : (h : History) (p : Packet) → IsFairAll Asker h → is_request p ≡ true → Now Asker (p ∷ puts h) (gots h) (p ∷ []) []
now_put_new h p fair asks = record {
  put_is = since_new p (puts h) asks;
  got_is = ap (λ n. after n (gots h)) (count_more p (puts h) asks) ∙ closed_got h fair;
}

now_got_new : (h : History) (p : Packet) → IsFairAll Answerer h → is_request p ≡ true → Now Answerer (puts h) (p ∷ gots h) [] (p ∷ [])
now_got_new h p fair asks = record {
  put_is = ap (λ n. after n (puts h)) (count_more p (gots h) asks) ∙ closed h (count is_request (gots h)) fair (omega arith);
  got_is = since_new p (gots h) asks;
}

-- The present connection's entries have these packets.
pub record IsPresent (side : Side) (h : History) : Type 0 where
  pub put : puts (present h) ≡ now_put side (puts h) (gots h)
  pub got : gots (present h) ≡ now_got side (puts h) (gots h)

new_put : (h : History) (p : Packet) → is_request p ≡ true → present (Put p ∷ h) ≡ Put p ∷ []
new_put h p e = rw e

more_put : (h : History) (p : Packet) → is_request p ≡ false → present (Put p ∷ h) ≡ Put p ∷ present h
more_put h p e = rw e

new_got : (h : History) (p : Packet) → is_request p ≡ true → present (Got p ∷ h) ≡ Got p ∷ []
new_got h p e = rw e

more_got : (h : History) (p : Packet) → is_request p ≡ false → present (Got p ∷ h) ≡ Got p ∷ present h
more_got h p e = rw e

put_present : (b : Bool) (side : Side) (h : History) (p : Packet) → is_request p ≡ b → IsFairAll side (Put p ∷ h) → IsPresent side h
    → IsPresent side (Put p ∷ h)
put_present true Asker h p e fair i =
    let n = now_put_new h p fair.1 e in
    record { put = ap puts (new_put h p e) ∙ sym n.put_is; got = ap gots (new_put h p e) ∙ sym n.got_is }
put_present true Answerer h p e fair i =
    let bad : true ≡ false = sym e ∙ answers_only (puts h) (gots h) p fair.0 in
    absurd cc
put_present false side h p e fair i =
    let n = now_put_more side h p fair.1 e in
    record {
      put = ap puts (more_put h p e) ∙ ap (λ ps. p ∷ ps) i.put ∙ sym n.put_is;
      got = ap gots (more_put h p e) ∙ i.got
          ∙ sym n.got_is;
    }

got_present : (b : Bool) (side : Side) (h : History) (p : Packet) → is_request p ≡ b → IsFairAll side (Got p ∷ h) → IsPresent side h
    → IsPresent side (Got p ∷ h)
got_present true Answerer h p e fair i =
    let n = now_got_new h p fair.1 e in
    record { put = ap puts (new_got h p e) ∙ sym n.put_is; got = ap gots (new_got h p e) ∙ sym n.got_is }
got_present true Asker h p e fair i =
    let bad : true ≡ false = sym e ∙ answers_only (gots h) (puts h) p fair.0 in
    absurd cc
got_present false side h p e fair i =
    let n = now_got_more side h p fair.1 e in
    record {
      put = ap puts (more_got h p e) ∙ i.put ∙ sym n.put_is;
      got = ap gots (more_got h p e) ∙ ap (λ ps. p ∷ ps) i.got
          ∙ sym n.got_is;
    }

pub is_present : (side : Side) (h : History) → IsFairAll side h → IsPresent side h
is_present Asker [] fair = record { put = refl; got = refl }
is_present Answerer [] fair = record { put = refl; got = refl }
is_present side (Put p ∷ h) fair = put_present (is_request p) side h p refl fair (is_present side h fair.1)
is_present side (Got p ∷ h) fair = got_present (is_request p) side h p refl fair (is_present side h fair.1)

pub swap : (side : Side) (put got : List Packet) → now_put (peer side) got put ≡ now_got side put got
swap Asker put got = refl
swap Answerer put got = refl

pub swap_back : (side : Side) (put got : List Packet) → now_got (peer side) got put ≡ now_put side put got
swap_back Asker put got = refl
swap_back Answerer put got = refl

put_once : (b : Bool) (side : Side) (h : History) (p : Packet) → is_request p ≡ b → IsFairAll side (Put p ∷ h) → IsFair side (present h)
    → IsFair side (present (Put p ∷ h))
put_once true side h p e fair once = rw e ((fair.0.opens e).first, tt)
put_once false side h p e fair once =
    let i = is_present side h fair.1 in
    rw e (subst₂ (λ ps qs. MayPut side ps qs p) (sym i.put) (sym i.got) (fair.0.goes_on e), once)

got_once : (b : Bool) (side : Side) (h : History) (p : Packet) → is_request p ≡ b → IsFairAll side (Got p ∷ h) → IsFair side (present h)
    → IsFair side (present (Got p ∷ h))
got_once true side h p e fair once = rw e ((fair.0.opens e).first, tt)
got_once false side h p e fair once =
    let i = is_present side h fair.1 in
    rw e (
      subst₂ (λ ps qs. MayPut (peer side) ps qs p) (swap side (puts h) (gots h) ∙ sym i.got) (swap_back side (puts h) (gots h) ∙ sym i.put)
          (fair.0.goes_on e),
      once,
    )

pub fair_once : (side : Side) (h : History) → IsFairAll side h → IsFair side (present h)
fair_once side [] fair = tt
fair_once side (Put p ∷ h) fair = put_once (is_request p) side h p refl fair (fair_once side h fair.1)
fair_once side (Got p ∷ h) fair = got_once (is_request p) side h p refl fair (fair_once side h fair.1)
