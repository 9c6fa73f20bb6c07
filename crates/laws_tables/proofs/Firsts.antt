-- Flows that are used once: all that passed on them is their present connection.
use Rattle.vs_page.{proofs.{Entries.present_is}, specs.{Fair.{asked_by}, Log.{Log, Role, history_of}}}
use Rattle.vs_page.specs.Log.{whole_of}
use Rattle.vs_flow.specs.{declared.flow.Flow.Flow}
use Rattle.std.proofs.{Common.{◌≡◌, ◌+◌, ◌≤◌, Bool, true, false, cond, ◌||◌, List, [], ◌∷◌, refl, sym, ap, subst, ◌∙◌, arith}, lemmas.Grind.common_steps}
use Rattle.laws_history.specs.{Again.{IsFairAll, count, present}, Packets.{has, is_request}, declared.packet.Packet.Packet, History.{Answerer, Asker, Got, History, IsFair, MayPut}}
use Rattle.laws_history.{specs.History.{Put, Side, gots, is_begun, puts}, proofs.Present.fair_once}
use Rattle.laws_tables.{proofs.Fair.{fair_begun}}

-- A present connection without entries is that of a flow on which nothing passed.
pub present_none : (w : History) → present w ≡ [] → w ≡ []
present_none [] none = refl
present_none (Put p ∷ w) none = by (is_request p) none
  where
    by : (b : Bool) → cond b (Put p ∷ []) (Put p ∷ present w) ≡ [] → Put p ∷ w ≡ []
    by true none = absurd cc
    by false none = absurd cc
present_none (Got p ∷ w) none = by (is_request p) none
  where
    by : (b : Bool) → cond b (Got p ∷ []) (Got p ∷ present w) ≡ [] → Got p ∷ w ≡ []
    by true none = absurd cc
    by false none = absurd cc

-- A REQUEST of the present connection is one of all.
put_asked : (w : History) → has is_request (puts (present w)) ≡ true → 1 ≤ count is_request (puts w)
put_asked [] is = absurd cc
put_asked (Put p ∷ w) is = at (is_request p) refl (is_request p) (put_asked w) is
  where
    at : (c : Bool) → is_request p ≡ c → (b : Bool) → (has is_request (puts (present w)) ≡ true → 1 ≤ count is_request (puts w))
        → has is_request (puts (cond b (Put p ∷ []) (Put p ∷ present w))) ≡ true
        → 1 ≤ cond c (count is_request (puts w) + 1) (count is_request (puts w))
    at true asks b rest is = omega arith
    at false asks true rest is = absurd (let e : (false || false) ≡ true = ap (λ (x : Bool). x || false) (sym asks) ∙ is in cc)
    at false asks false rest is = rest (ap (λ (x : Bool). x || has is_request (puts (present w))) (sym asks) ∙ is)
put_asked (Got p ∷ w) is = by (is_request p) (put_asked w) is
  where
    by : (b : Bool) → (has is_request (puts (present w)) ≡ true → 1 ≤ count is_request (puts w))
        → has is_request (puts (cond b (Got p ∷ []) (Got p ∷ present w))) ≡ true → 1 ≤ count is_request (puts w)
    by true rest is = absurd cc
    by false rest is = rest is

got_asked : (w : History) → has is_request (gots (present w)) ≡ true → 1 ≤ count is_request (gots w)
got_asked [] is = absurd cc
got_asked (Got p ∷ w) is = at (is_request p) refl (is_request p) (got_asked w) is
  where
    at : (c : Bool) → is_request p ≡ c → (b : Bool) → (has is_request (gots (present w)) ≡ true → 1 ≤ count is_request (gots w))
        → has is_request (gots (cond b (Got p ∷ []) (Got p ∷ present w))) ≡ true
        → 1 ≤ cond c (count is_request (gots w) + 1) (count is_request (gots w))
    at true asks b rest is = omega arith
    at false asks true rest is = absurd (let e : (false || false) ≡ true = ap (λ (x : Bool). x || false) (sym asks) ∙ is in cc)
    at false asks false rest is = rest (ap (λ (x : Bool). x || has is_request (gots (present w))) (sym asks) ∙ is)
got_asked (Put p ∷ w) is = by (is_request p) (got_asked w) is
  where
    by : (b : Bool) → (has is_request (gots (present w)) ≡ true → 1 ≤ count is_request (gots w))
        → has is_request (gots (cond b (Put p ∷ []) (Put p ∷ present w))) ≡ true → 1 ≤ count is_request (gots w)
    by true rest is = absurd cc
    by false rest is = rest is

begun_some : (side : Side) (w : History) → is_begun side (puts (present w)) (gots (present w)) ≡ true → 1 ≤ asked_by side (puts w) (gots w)
begun_some Asker w is = put_asked w is
begun_some Answerer w is = got_asked w is

-- Where no connection began nothing passed, and where something passed one did.
pub none_begun : (side : Side) (w : History) → IsFairAll side w → asked_by side (puts w) (gots w) ≡ 0 → w ≡ []
none_begun side w fair none = by (present w) refl (fair_once side w fair)
  where
    by : (h : History) → present w ≡ h → IsFair side h → w ≡ []
    by [] is one = present_none w is
    by (x ∷ h) is one =
        let some = begun_some side w (subst (λ (k : History). is_begun side (puts k) (gots k) ≡ true) (sym is) (fair_begun side h x one)) in
        absurd (omega (arith, some, none))

-- A REQUEST is the asker's.
pub asker_asks : (side : Side) (put got : List Packet) (p : Packet) → MayPut side put got p → is_request p ≡ true → side ≡ Asker
asker_asks side put got p may asks = let t = may.timely in grind (arith, common_steps, asks, t)

-- Where nothing passed on the present connection, nothing passed.
pub no_present : (role : Role) (f : Flow) (log : Log) → history_of role f log ≡ [] → whole_of role f log ≡ []
no_present role f log none = present_none (whole_of role f log) (present_is role f log ∙ none)
