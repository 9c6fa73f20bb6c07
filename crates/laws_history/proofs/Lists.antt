-- What a list of packets says when it grows.
use Rattle.std.proofs.{Common.{◌≡◌, ℕ, ◌+◌, ◌<◌, ◌≤◌, Bool, true, false, List, [], ◌∷◌, ◌++◌, refl, ap, ◌∙◌, arith}, lemmas.Grind.common_steps}
use Rattle.laws_history.specs.{declared.packet.Packet.Packet, Packets.{bytes, has, is_clean_rst, is_request}, Again.{after, count, since_request}}

pub bytes_more : (more older : List Packet) → bytes older ≤ bytes (more ++ older)
bytes_more [] older = grind arith
bytes_more (p ∷ more) older = grind (arith, bytes_more more older)

pub has_more : (test : Packet → Bool) (more older : List Packet) → has test older ≡ true → has test (more ++ older) ≡ true
has_more test [] older e = e
has_more test (p ∷ more) older e = let there : has test (more ++ older) ≡ true = has_more test more older e in grind arith

-- Counting goes up by at most one at each packet.
pub count_next : (test : Packet → Bool) (p : Packet) (ps : List Packet)
    → (count test ps ≤ count test (p ∷ ps)) × (count test (p ∷ ps) ≤ count test ps + 1)
count_next = grind (arith, common_steps)

pub count_append : (test : Packet → Bool) (more older : List Packet) → count test (more ++ older) ≡ count test more + count test older
count_append test [] older = grind arith
count_append test (p ∷ more) older = let e = count_append test more older in grind arith

-- Where one is there, it counts.
pub has_counts : (test : Packet → Bool) (ps : List Packet) → has test ps ≡ true → 1 ≤ count test ps
has_counts test [] e = absurd cc
has_counts test (p ∷ ps) e = let rest : has test ps ≡ true → 1 ≤ count test ps = has_counts test ps in grind arith

-- Where no marked RST stands after n of them, there are at most n.
pub after_quiet : (n : ℕ) (ps : List Packet) → has is_clean_rst (after n ps) ≡ false → count is_clean_rst ps ≤ n
after_quiet n [] e = omega arith
after_quiet n (p ∷ ps) e =
    let rest : has is_clean_rst (after n ps) ≡ false → count is_clean_rst ps ≤ n = after_quiet n ps in grind (arith, common_steps)

-- More packets on the same connection.
pub after_step : (n : ℕ) (p : Packet) (ps : List Packet) → n ≤ count is_clean_rst ps → after n (p ∷ ps) ≡ p ∷ after n ps
after_step = grind (arith, common_steps)

pub after_more : (n : ℕ) (more older : List Packet) → n ≤ count is_clean_rst older → after n (more ++ older) ≡ more ++ after n older
after_more n [] older h = refl
after_more n (p ∷ more) older h =
    let there : n ≤ count is_clean_rst (more ++ older) = omega (arith, count_append is_clean_rst more older) in
    after_step n p (more ++ older) there ∙ ap (λ ps. p ∷ ps) (after_more n more older h)

pub since_step : (p : Packet) (ps : List Packet) → is_request p ≡ false → since_request (p ∷ ps) ≡ p ∷ since_request ps
since_step p ps e = rw e

pub since_more : (more older : List Packet) → count is_request more ≡ 0 → since_request (more ++ older) ≡ more ++ since_request older
since_more [] older e = refl
since_more (p ∷ more) older e =
    let rest : count is_request more ≡ 0 → since_request (more ++ older) ≡ more ++ since_request older = since_more more older in
    grind (arith, common_steps)

-- After as many as there are, nothing stands that came before the last of them.
pub after_none : (n : ℕ) (p : Packet) (ps : List Packet) → count is_clean_rst ps < n → after n (p ∷ ps) ≡ []
after_none = grind (arith, common_steps)
