-- The rules of several connections are rules on the present one.
use Rattle.std.proofs.Common.{◌≡◌, cond, ℕ, zero, suc, ◌+◌, ◌-◌, ◌≤◌, Bool, true, false, List, [], ◌∷◌, refl, sym, ap, ◌∙◌, subst₂, arith, ◌⊎◌, inl, inr}
use Rattle.std.proofs.lemmas.Grind.{common_steps}
use Rattle.laws_history.specs.{declared.packet.Packet.Packet, Packets.{has, is_clean_rst, is_request, is_rst}, History.{Answerer, Asker, Entry, Got, History, MayPut, Put, Side}}
use Rattle.laws_history.specs.{History.{gots, peer, puts}, Again.{AllowsNext, AllowsNow, IsClean, IsFairAll, MayOpen, MayOpenNow, MayPutNext, MayPutNow, after, count, present}}
use Rattle.laws_history.{specs.Again.since_request, proofs.{Lists.{after_quiet, has_counts}, FairPairs.{answers_only, counts_answerer, since_has}, Present.{is_present, mirror}}}
use Rattle.laws_history.proofs.Present.{mirror_fair, mirror_gots, mirror_puts}

-- The answerer closed no more connections than the asker opened.
pub clean_most : (h : History) → IsFairAll Asker h → count is_clean_rst (gots h) ≤ count is_request (puts h)
clean_most h fair =
    subst₂ (λ ps qs. count is_clean_rst ps ≤ count is_request qs) (mirror_puts h) (mirror_gots h)
    (counts_answerer (mirror h) (mirror_fair Asker h fair))

-- Nothing passes before the asker's first REQUEST.
silent : (h : History) → IsFairAll Asker h → count is_request (puts h) ≡ 0 → h ≡ []
silent [] fair none = refl
silent (Put p ∷ h) fair none = by (is_request p) refl
  where
    by : (b : Bool) → is_request p ≡ b → Put p ∷ h ≡ []
    by true is = absurd (grind (arith, common_steps, is, none))
    by false is =
        let some = has_counts is_request (puts h) (since_has is_request (puts h) ((fair.0.goes_on is).begun is)) in
        absurd (grind (arith, common_steps, is, none, some))
silent (Got p ∷ h) fair none =
    let other = answers_only (gots h) (puts h) p fair.0 in
    let some = has_counts is_request (puts h) (since_has is_request (puts h) ((fair.0.goes_on other).begun other)) in
    absurd (omega (arith, some, none))

pub clean_after : (n : ℕ) (ps : List Packet) → has is_clean_rst (after n ps) ≡ true → n + 1 ≤ count is_clean_rst ps
clean_after n [] is = absurd cc
clean_after n (p ∷ ps) is =
    let rest : has is_clean_rst (after n ps) ≡ true → n + 1 ≤ count is_clean_rst ps = clean_after n ps in grind (arith, common_steps, is)

after_clean : (n : ℕ) (ps : List Packet) → n + 1 ≤ count is_clean_rst ps → has is_clean_rst (after n ps) ≡ true
after_clean n ps most = by (has is_clean_rst (after n ps)) refl
  where
    by : (b : Bool) → has is_clean_rst (after n ps) ≡ b → b ≡ true
    by true is = refl
    by false is = let few = after_quiet n ps is in absurd (omega arith)

-- An asker's next REQUEST.
opens_now : (h : History) (p : Packet) → IsFairAll Asker h → MayOpen Asker (puts h) (gots h) p
    → MayOpenNow Asker (puts (present h)) (gots (present h)) p
opens_now h p fair may = by (count is_request (puts h)) refl
  where
    by : (n : ℕ) → count is_request (puts h) ≡ n → MayOpenNow Asker (puts (present h)) (gots (present h)) p
    by zero none =
        let empty = silent h fair none in
        (inl (ap (λ (k : History). puts (present k)) empty, ap (λ (k : History). gots (present k)) empty), may.first)
    by (suc n) some =
        let i = is_present Asker h fair in
        let at : count is_request (puts h) - 1 ≡ n = omega (arith, some) in
        let marked : has is_clean_rst (after n (gots h)) ≡ true = after_clean n (gots h) (omega (arith, may.over, some)) in (
          inr (record {
            not_reset = ap (has is_rst) i.put ∙ may.not_reset;
            marked = ap (has is_clean_rst) (i.got ∙ ap (λ (k : ℕ). after k (gots h)) at) ∙ marked;
          }),
          may.first,
        )

opens_next : (h : History) (p : Packet) → IsFairAll Asker h → MayOpenNow Asker (puts (present h)) (gots (present h)) p
    → MayOpen Asker (puts h) (gots h) p
opens_next h p fair (clean, first) = by (count is_request (puts h)) refl clean
  where
    by : (n : ℕ) → count is_request (puts h) ≡ n
        → ((puts (present h) ≡ []) × (gots (present h) ≡ [])) ⊎ IsClean (puts (present h)) (gots (present h))
        → MayOpen Asker (puts h) (gots h) p
    by zero none c =
        let empty = silent h fair none in
        record {
          over = ap (λ (k : History). count is_clean_rst (gots k)) empty
              ∙ sym none;
          not_reset = ap (λ (k : History). has is_rst (since_request (puts k))) empty;
          first = first;
        }
    by (suc n) some (inl (put, got)) =
        let i = is_present Asker h fair in
        let empty : since_request (puts h) ≡ [] = sym i.put ∙ put in
        let some_there = requests_stay (puts h) (omega (arith, some)) in
        let bad : false ≡ true = sym (ap (has is_request) empty) ∙ some_there in absurd cc
      where
        requests_stay : (ps : List Packet) → 1 ≤ count is_request ps → has is_request (since_request ps) ≡ true
        requests_stay [] is = absurd (omega arith)
        requests_stay (q ∷ ps) is =
            let rest : 1 ≤ count is_request ps → has is_request (since_request ps) ≡ true = requests_stay ps in grind (arith, common_steps)
    by (suc n) some (inr c) =
        let i = is_present Asker h fair in
        let at : count is_request (puts h) - 1 ≡ n = omega (arith, some) in
        let most = clean_after n (gots h) (ap (has is_clean_rst) (sym (i.got ∙ ap (λ (k : ℕ). after k (gots h)) at)) ∙ c.marked) in
        record { over = omega (arith, most, some, clean_most h fair); not_reset = ap (has is_rst) (sym i.put) ∙ c.not_reset; first = first }

pub put_now : (h : History) (p : Packet) → IsFairAll Asker h → AllowsNext Asker h (Put p) → AllowsNow Asker (present h) (Put p)
put_now h p fair may =
    let i = is_present Asker h fair in
    record {
      opens = λ is. opens_now h p fair (may.opens is);
      goes_on = λ is. subst₂ (λ ps qs. MayPut Asker ps qs p) (sym i.put) (sym i.got)
          (may.goes_on is);
    }

pub put_next : (h : History) (p : Packet) → IsFairAll Asker h → AllowsNow Asker (present h) (Put p) → AllowsNext Asker h (Put p)
put_next h p fair may =
    let i = is_present Asker h fair in
    record {
      opens = λ is. opens_next h p fair (may.opens is);
      goes_on = λ is. subst₂ (λ ps qs. MayPut Asker ps qs p) i.put i.got
          (may.goes_on is);
    }

-- An answerer opens nothing.
never_opens : (p : Packet) → is_request p ≡ true → MayPut Answerer [] [] p → ⊥
never_opens p is may = let t = may.timely in grind (arith, common_steps, is, t)

put_now_by : (side : Side) (h : History) (p : Packet) → IsFairAll side h → AllowsNext side h (Put p) → AllowsNow side (present h) (Put p)
put_now_by Asker h p fair may = put_now h p fair may
put_now_by Answerer h p fair may =
    let i = is_present Answerer h fair in
    record {
      opens = λ is. absurd (never_opens p is (may.opens is).first);
      goes_on = λ is. subst₂ (λ ps qs. MayPut Answerer ps qs p)
          (sym i.put) (sym i.got) (may.goes_on is);
    }

put_next_by : (side : Side) (h : History) (p : Packet) → IsFairAll side h → AllowsNow side (present h) (Put p) → AllowsNext side h (Put p)
put_next_by Asker h p fair may = put_next h p fair may
put_next_by Answerer h p fair may =
    let i = is_present Answerer h fair in
    record {
      opens = λ is. absurd (never_opens p is (may.opens is).1);
      goes_on = λ is. subst₂ (λ ps qs. MayPut Answerer ps qs p) i.put i.got
          (may.goes_on is);
    }

-- The other end's view of the present connection.
mirror_present : (h : History) → present (mirror h) ≡ mirror (present h)
mirror_present [] = refl
mirror_present (Put p ∷ h) = by (is_request p) (mirror_present h)
  where
    by : (b : Bool) → present (mirror h) ≡ mirror (present h)
        → cond b (Got p ∷ []) (Got p ∷ present (mirror h)) ≡ mirror (cond b (Put p ∷ []) (Put p ∷ present h))
    by true rest = refl
    by false rest = ap (λ (k : History). Got p ∷ k) rest
mirror_present (Got p ∷ h) = by (is_request p) (mirror_present h)
  where
    by : (b : Bool) → present (mirror h) ≡ mirror (present h)
        → cond b (Put p ∷ []) (Put p ∷ present (mirror h)) ≡ mirror (cond b (Got p ∷ []) (Got p ∷ present h))
    by true rest = refl
    by false rest = ap (λ (k : History). Put p ∷ k) rest

pub now_puts : (h : History) → puts (present (mirror h)) ≡ gots (present h)
now_puts h = ap puts (mirror_present h) ∙ mirror_puts (present h)

pub now_gots : (h : History) → gots (present (mirror h)) ≡ puts (present h)
now_gots h = ap gots (mirror_present h) ∙ mirror_gots (present h)

pub now : (side : Side) (h : History) (entry : Entry) → IsFairAll side h → AllowsNext side h entry → AllowsNow side (present h) entry
now side h (Put p) fair may = put_now_by side h p fair may
now side h (Got p) fair may =
    subst₂ (λ ps qs. MayPutNow (peer side) ps qs p) (now_puts h) (now_gots h)
    (put_now_by (peer side) (mirror h) p (mirror_fair side h fair)
    (subst₂ (λ ps qs. MayPutNext (peer side) ps qs p) (sym (mirror_puts h)) (sym (mirror_gots h)) may))

pub next : (side : Side) (h : History) (entry : Entry) → IsFairAll side h → AllowsNow side (present h) entry → AllowsNext side h entry
next side h (Put p) fair may = put_next_by side h p fair may
next side h (Got p) fair may =
    subst₂ (λ ps qs. MayPutNext (peer side) ps qs p) (mirror_puts h) (mirror_gots h)
    (put_next_by (peer side) (mirror h) p (mirror_fair side h fair)
    (subst₂ (λ ps qs. MayPutNow (peer side) ps qs p) (sym (now_puts h)) (sym (now_gots h)) may))
