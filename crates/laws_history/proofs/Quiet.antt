-- Where a connection is over cleanly at its asker, nothing of the pair is under way.
use Rattle.std.proofs.{Common.{◌≡◌, ℕ, ◌-◌, ◌≤◌, Bool, true, false, ◌||◌, List, [], ◌∷◌, ◌++◌, refl, sym, ap, ◌∙◌, subst, subst₂, arith}, lemmas.Grind.common_steps}
use Rattle.laws_history.specs.{History.{Answerer, Asker, Got, HasGot, History, IsFair, MayPut, Put, Side, gots, puts}, declared.packet.Packet.Packet, Packets.{has, has_both}}
use Rattle.laws_history.{specs.{Packets.{is_clean_rst, is_request, is_rst}, Again.{IsClean, IsFairAll, after, count, present, since_request}}, proofs.Lists.after_more}
use Rattle.laws_history.proofs.{Lists.{count_append, since_more}, FairPairs.{closed, counts_answerer}, Now.{clean_after, clean_most}, Present.{fair_once, is_present}}

both_more : (p : Packet) (ps : List Packet) → has_both ps ≡ true → has_both (p ∷ ps) ≡ true
both_more = grind (arith, common_steps)

both_append : (more older : List Packet) → has_both older ≡ true → has_both (more ++ older) ≡ true
both_append [] older is = is
both_append (p ∷ more) older is = both_more p (more ++ older) (both_append more older is)

-- Who put a marked RST got both bits.
pub marked_both : (side : Side) (h : History) → IsFair side h → has is_clean_rst (puts h) ≡ true → has_both (gots h) ≡ true
marked_both side [] fair is = absurd cc
marked_both side (Put p ∷ h) fair is = by (is_clean_rst p) refl (marked_both side h fair.1)
  where
    by : (b : Bool) → is_clean_rst p ≡ b → (has is_clean_rst (puts h) ≡ true → has_both (gots h) ≡ true) → has_both (gots h) ≡ true
    by true e rest = fair.0.marked e
    by false e rest = rest (let both : (is_clean_rst p || has is_clean_rst (puts h)) ≡ true = is in rw e at both)
marked_both side (Got p ∷ h) fair is = both_more p (gots h) (marked_both side h fair.1 is)

-- The newest packet put was allowed after those before.
record NewestMay (side : Side) (rest : List Packet) (q : Packet) : Type 0 where
  got : List Packet
  may : MayPut side rest got q

newest_may : (side : Side) (h : History) (q : Packet) (rest : List Packet) → IsFair side h → puts h ≡ q ∷ rest → NewestMay side rest q
newest_may side [] q rest fair is = absurd cc
newest_may side (Put p ∷ h) q rest fair is =
    let same : p ≡ q = cc in
    let older : puts h ≡ rest = cc in
    record { got = gots h; may = subst₂ (λ x ps. MayPut side ps (gots h) x) same older fair.0 }
newest_may side (Got p ∷ h) q rest fair is = newest_may side h q rest fair.1 is

-- After both bits nothing but RST was put.
none_after : (h : History) (more older : List Packet) → IsFair Asker h → puts h ≡ more ++ older → has_both older ≡ true
    → has is_rst (puts h) ≡ false → more ≡ []
none_after h [] older fair is both unreset = refl
none_after h (q ∷ more) older fair is both unreset =
    let m = newest_may Asker h q (more ++ older) fair is in
    let closed_both : has_both (more ++ older) ≡ true = both_append more older both in
    let quiet : has is_rst (q ∷ (more ++ older)) ≡ false = ap (has is_rst) (sym is) ∙ unreset in
    let plain : is_rst q ≡ false = grind (arith, common_steps, quiet) in
    let bad : true ≡ false = sym closed_both ∙ (m.may.honest plain).not_closed in
    absurd cc

no_more : (rest older : List Packet) → rest ++ older ≡ [] → rest ≡ []
no_more [] older is = refl
no_more (p ∷ rest) older is = absurd cc

pub record IsQuiet (mine other : History) : Type 0 where
  pub came : puts other ≡ gots mine
  pub went : puts mine ≡ gots other

pub quiet : (mine other : History) → IsFairAll Asker mine → IsFairAll Answerer other → HasGot mine other → HasGot other mine
    → IsClean (puts (present mine)) (gots (present mine)) → IsQuiet mine other
quiet mine other fair fair_other (rest, came) (more, went) clean =
    let i = is_present Asker mine fair in
    let n = count is_request (puts mine) in
    let marks = clean_after (n - 1) (gots mine) (ap (has is_clean_rst) (sym i.got) ∙ clean.marked) in
    let most = clean_most mine fair in
    let asked : count is_request (gots other) ≤ n = omega (arith, ap (count is_request) went, count_append is_request more (gots other)) in
    let got_all : count is_clean_rst (gots mine) ≡ n = omega (arith, marks, most) in
    let nothing : after n (puts other) ≡ [] = closed other n fair_other asked in
    let split : after n (rest ++ gots mine) ≡ rest ++ after n (gots mine) = after_more n rest (gots mine) (omega (arith, got_all)) in
    let none : rest ≡ [] = no_more rest (after n (gots mine)) (sym split ∙ ap (after n) (sym came) ∙ nothing) in
    let all : puts other ≡ gots mine = came ∙ ap (λ (ps : List Packet). ps ++ gots mine) none in
    let o = is_present Answerer other fair_other in
    let answered : count is_clean_rst (puts other) ≤ count is_request (gots other) = counts_answerer other fair_other in
    let as_many : count is_request (gots other) ≡ n = omega (arith, ap (count is_clean_rst) all, answered, got_all, asked) in
    let same : count is_request more ≡ 0 = omega (arith, ap (count is_request) went, count_append is_request more (gots other), as_many) in
    let theirs : puts (present other) ≡ gots (present mine) =
    o.put ∙ ap (λ (k : ℕ). after (k - 1) (puts other)) as_many ∙ ap (after (n - 1)) all ∙ sym i.got in
    let both : has_both (since_request (gots other)) ≡ true =
    subst (λ ps. has_both ps ≡ true) o.got
    (marked_both Answerer (present other) (fair_once Answerer other fair_other) (ap (has is_clean_rst) theirs ∙ clean.marked)) in
    let mine_now : puts (present mine) ≡ more ++ since_request (gots other) = i.put ∙ ap since_request went
    ∙ since_more more (gots other) same in
    let over : more ≡ [] = none_after (present mine) more (since_request (gots other)) (fair_once Asker mine fair) mine_now both
    clean.not_reset in
    record { came = all; went = went ∙ ap (λ (ps : List Packet). ps ++ gots other) over }
