-- What a fair history says of the connections on its pair.
use Rattle.std.proofs.{Common.{◌≡◌, ℕ, ◌+◌, ◌-◌, ◌≤◌, Bool, true, false, nat_le, List, [], ◌∷◌, refl, sym, subst, arith}, lemmas.Grind.common_steps}
use Rattle.laws_history.specs.{declared.packet.Packet.Packet, Packets.{has, is_clean_rst, is_request}, Again.{IsFairAll, MayPutNext, after, count, now_got, since_request}}
use Rattle.laws_history.{specs.History.{Answerer, Asker, Got, History, Put, gots, puts}, proofs.{Fair.{AllRise, put_rises}, Lists.{after_none, after_quiet, count_next}}}
use Rattle.laws_history.proofs.Lists.{has_counts}

-- The answerer puts nothing but on an open connection.
pub answers_only : (put got : List Packet) (p : Packet) → MayPutNext Answerer put got p → is_request p ≡ false
answers_only put got p may = grind (arith, common_steps)

-- What the present connection has, all connections have.
pub since_has : (test : Packet → Bool) (ps : List Packet) → has test (since_request ps) ≡ true → has test ps ≡ true
since_has test [] is = is
since_has test (p ∷ ps) is =
    let rest : has test (since_request ps) ≡ true → has test ps ≡ true = since_has test ps in grind (arith, common_steps, is)

pub open_answerer : (put got : List Packet) (p : Packet) → MayPutNext Answerer put got p → count is_clean_rst put + 1 ≤ count is_request got
open_answerer put got p may =
    let other = answers_only put got p may in
    omega (
      arith,
      has_counts is_request got (since_has is_request got ((may.goes_on other).begun other)),
      after_quiet
          (count is_request got - 1) put (may.goes_on other).quiet,
    )

-- The asker opened at most one connection more than were closed, and the answerer closed no more than were opened.
pub counts_asker : (h : History) → IsFairAll Asker h → count is_request (puts h) ≤ count is_clean_rst (gots h) + 1
counts_asker [] fair = omega arith
counts_asker (Put p ∷ h) fair =
    let may : MayPutNext Asker (puts h) (gots h) p = fair.0 in
    let before = counts_asker h fair.1 in
    grind (arith, common_steps)
counts_asker (Got p ∷ h) fair = omega (arith, counts_asker h fair.1, (count_next is_clean_rst p (gots h)).0)

pub counts_answerer : (h : History) → IsFairAll Answerer h → count is_clean_rst (puts h) ≤ count is_request (gots h)
counts_answerer [] fair = omega arith
counts_answerer (Put p ∷ h) fair = omega (arith, open_answerer (puts h) (gots h) p fair.0, (count_next is_clean_rst p (puts h)).1)
counts_answerer (Got p ∷ h) fair = omega (arith, counts_answerer h fair.1, (count_next is_request p (gots h)).0)

-- Nothing is put after a connection is closed.
pub closed : (h : History) (n : ℕ) → IsFairAll Answerer h → count is_request (gots h) ≤ n → after n (puts h) ≡ []
closed [] n fair most = refl
closed (Put p ∷ h) n fair most = after_none n p (puts h) (omega (arith, open_answerer (puts h) (gots h) p fair.0))
closed (Got p ∷ h) n fair most = closed h n fair.1 (omega (arith, (count_next is_request p (gots h)).0))

-- On the present connection what is told never falls.
asker_put : (b : Bool) (put got : List Packet) (p : Packet) → is_request p ≡ b → MayPutNext Asker put got p → AllRise (since_request put)
    → AllRise (since_request (p ∷ put))
asker_put true put got p e may before = rw e (put_rises Asker [] [] p (may.opens e).first, tt)
asker_put false put got p e may before = rw e (put_rises Asker (since_request put) (now_got Asker put got) p (may.goes_on e), before)

pub rises_asker : (h : History) → IsFairAll Asker h → AllRise (since_request (puts h))
rises_asker [] fair = tt
rises_asker (Put p ∷ h) fair = asker_put (is_request p) (puts h) (gots h) p refl fair.0 (rises_asker h fair.1)
rises_asker (Got p ∷ h) fair = rises_asker h fair.1

answerer_put : (b : Bool) (put got : List Packet) (p : Packet) → nat_le (count is_request got - 1) (count is_clean_rst put) ≡ b
    → MayPutNext Answerer put got p
    → AllRise (after (count is_request got - 1) put) → AllRise (after (count is_request got - 1) (p ∷ put))
answerer_put x0 x1 x2 x3 x4 x5 x6 = grind (arith, common_steps)

answerer_got : (b : Bool) (h : History) (p : Packet) → is_request p ≡ b → IsFairAll Answerer h
    → AllRise (after (count is_request (gots h) - 1) (puts h))
    → AllRise (after (count is_request (p ∷ gots h) - 1) (puts h))
answerer_got true h p e fair before = rw e (subst AllRise (sym (closed h (count is_request (gots h) + 1 - 1) fair (omega arith))) tt)
answerer_got false h p e fair before = rw e before

pub rises_answerer : (h : History) → IsFairAll Answerer h → AllRise (after (count is_request (gots h) - 1) (puts h))
rises_answerer [] fair = tt
rises_answerer (Put p ∷ h) fair =
    answerer_put (nat_le (count is_request (gots h) - 1) (count is_clean_rst (puts h))) (puts h) (gots h) p refl fair.0
    (rises_answerer h fair.1)
rises_answerer (Got p ∷ h) fair = answerer_got (is_request p) h p refl fair.1 (rises_answerer h fair.1)
