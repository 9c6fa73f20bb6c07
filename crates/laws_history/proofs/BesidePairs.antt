-- Fairness between guests is fairness of what passed without plain RSTs.
use Rattle.std.proofs.Common.{◌≡◌, ◌+◌, ◌≤◌, Bool, true, false, cond, if◌then◌else◌, List, [], ◌∷◌, ◌++◌, refl, sym, ap, ◌∙◌, subst, subst₂, arith}
use Rattle.std.proofs.lemmas.Grind.{common_steps}
use Rattle.laws_history.specs.{declared.packet.Packet.Packet, Again.{AllowsNow, IsFairAll, MayPutNow, present}, Beside.{AllowsBeside, IsFairBeside, MayPutBeside, is_plain_rst, steadied, steady}}
use Rattle.laws_history.specs.History.{Entry, Got, HasGot, History, IsNext, Put, Side, gots, peer, puts}
use Rattle.laws_history.specs.Packets.{IsFormed, allowance, bytes, forwarded_by, is_request, is_rst, size}
use Rattle.laws_history.proofs.{Fair.{BothSound, sound}, Now.{next, now}, Present.fair_once, Steady.{AllFormed, Alike, alike, may_steady, now_formed}, TiedPairs.next_allowed}

pub steady_puts : (h : History) → puts (steadied h) ≡ steady (puts h)
steady_puts [] = refl
steady_puts (Put p ∷ h) = let rest = steady_puts h in grind (arith, common_steps)
steady_puts (Got p ∷ h) = let rest = steady_puts h in grind (arith, common_steps)

pub steady_gots : (h : History) → gots (steadied h) ≡ steady (gots h)
steady_gots [] = refl
steady_gots (Put p ∷ h) = let rest = steady_gots h in grind (arith, common_steps)
steady_gots (Got p ∷ h) = let rest = steady_gots h in grind (arith, common_steps)

-- A REQUEST is no plain RST, so the present connection stays the same.
plain_other : (p : Packet) → is_plain_rst p ≡ true → is_request p ≡ false
plain_other = grind (arith, common_steps)

steady_put : (p : Packet) (h : History) (plain asks : Bool) → is_plain_rst p ≡ plain → is_request p ≡ asks
    → present (steadied h) ≡ steadied (present h) → present (steadied (Put p ∷ h)) ≡ steadied (present (Put p ∷ h))
steady_put x0 x1 x2 x3 x4 x5 x6 = grind (arith, common_steps)

steady_got : (p : Packet) (h : History) (plain asks : Bool) → is_plain_rst p ≡ plain → is_request p ≡ asks
    → present (steadied h) ≡ steadied (present h) → present (steadied (Got p ∷ h)) ≡ steadied (present (Got p ∷ h))
steady_got x0 x1 x2 x3 x4 x5 x6 = grind (arith, common_steps)

pub steady_present : (h : History) → present (steadied h) ≡ steadied (present h)
steady_present [] = refl
steady_present (Put p ∷ h) = steady_put p h (is_plain_rst p) (is_request p) refl refl (steady_present h)
steady_present (Got p ∷ h) = steady_got p h (is_plain_rst p) (is_request p) refl refl (steady_present h)

puts_now : (h : History) → puts (present (steadied h)) ≡ steady (puts (present h))
puts_now h = ap puts (steady_present h) ∙ steady_puts (present h)

gots_now : (h : History) → gots (present (steadied h)) ≡ steady (gots (present h))
gots_now h = ap gots (steady_present h) ∙ steady_gots (present h)

-- So a history that is fair between guests is fair, once plain RSTs are left out.
put_more : (side : Side) (h : History) (p : Packet) (b : Bool) → is_plain_rst p ≡ b → AllowsBeside side (present h) (Put p)
    → IsFairAll side (steadied h) → IsFairAll side (steadied (Put p ∷ h))
put_more side h p true is may rest = rw is rest
put_more side h p false is may rest =
    rw is (
      next side (steadied h) (Put p) rest
          (subst₂ (λ ps qs. MayPutNow side ps qs p) (sym (puts_now h)) (sym (gots_now h)) (may.steadily is)),
      rest,
    )

got_more : (side : Side) (h : History) (p : Packet) (b : Bool) → is_plain_rst p ≡ b → AllowsBeside side (present h) (Got p)
    → IsFairAll side (steadied h) → IsFairAll side (steadied (Got p ∷ h))
got_more side h p true is may rest = rw is rest
got_more side h p false is may rest =
    rw is (
      next side (steadied h) (Got p) rest
          (subst₂ (λ ps qs. MayPutNow (peer side) ps qs p) (sym (gots_now h)) (sym (puts_now h)) (may.steadily is)),
      rest,
    )

pub steadied_fair : (side : Side) (h : History) → IsFairBeside side h → IsFairAll side (steadied h)
steadied_fair side [] fair = tt
steadied_fair side (Put p ∷ h) fair = put_more side h p (is_plain_rst p) refl fair.0 (steadied_fair side h fair.1)
steadied_fair side (Got p ∷ h) fair = got_more side h p (is_plain_rst p) refl fair.0 (steadied_fair side h fair.1)

-- Its packets are formed.
record AreFormed (h : History) : Type 0 where
  put : AllFormed (puts h)
  got : AllFormed (gots h)

formed_put : (p : Packet) (h : History) (b : Bool) → IsFormed p → AreFormed h → AreFormed (if b then Put p ∷ [] else Put p ∷ h)
formed_put p h true formed are = record { put = (formed, tt); got = tt }
formed_put p h false formed are = record { put = (formed, are.put); got = are.got }

formed_got : (p : Packet) (h : History) (b : Bool) → IsFormed p → AreFormed h → AreFormed (if b then Got p ∷ [] else Got p ∷ h)
formed_got p h true formed are = record { put = tt; got = (formed, tt) }
formed_got p h false formed are = record { put = are.put; got = (formed, are.got) }

formed_now : (side : Side) (h : History) → IsFairBeside side h → AreFormed (present h)
formed_now side [] fair = record { put = tt; got = tt }
formed_now side (Put p ∷ h) fair = formed_put p (present h) (is_request p) fair.0.formed (formed_now side h fair.1)
formed_now side (Got p ∷ h) fair = formed_got p (present h) (is_request p) fair.0.formed (formed_now side h fair.1)

-- What the rules beside a host allow, these allow too.
may_beside : (side : Side) (put got : List Packet) (p : Packet) → AllFormed put → AllFormed got → MayPutNow side put got p
    → MayPutBeside side put got p
may_beside side put got p formed_put formed_got may =
    record { formed = now_formed side put got p may; steadily = λ _. may_steady side put got p formed_put formed_got may }

pub allows_beside : (side : Side) (h : History) (entry : Entry) → IsFairBeside side h → AllowsNow side (present h) entry
    → AllowsBeside side (present h) entry
allows_beside side h (Put p) fair may =
    let are = formed_now side h fair in may_beside side (puts (present h)) (gots (present h)) p are.put are.got may
allows_beside side h (Got p) fair may =
    let are = formed_now side h fair in may_beside (peer side) (gots (present h)) (puts (present h)) p are.got are.put may

pub fair_beside : (side : Side) (h : History) → IsFairAll side h → IsFairBeside side h
fair_beside side [] fair = tt
fair_beside side (entry ∷ h) fair =
    let older = fair_beside side h fair.1 in (allows_beside side h entry older (now side h entry fair.1 fair.0), older)

-- Two ends.
steady_append : (more older : List Packet) → steady (more ++ older) ≡ steady more ++ steady older
steady_append [] older = refl
steady_append (p ∷ more) older = by (is_plain_rst p) (steady_append more older)
  where
    by : (b : Bool) → steady (more ++ older) ≡ steady more ++ steady older
        → cond b (steady (more ++ older)) (p ∷ steady (more ++ older)) ≡ cond b (steady more) (p ∷ steady more) ++ steady older
    by true rest = rest
    by false rest = ap (λ ps. p ∷ ps) rest

steady_has_got : (mine other : History) → HasGot mine other → HasGot (steadied mine) (steadied other)
steady_has_got mine other (rest, is) = (
  steady rest,
  steady_puts other ∙ ap steady is ∙ steady_append rest (gots mine) ∙ ap (λ ps. steady rest ++ ps) (sym (steady_gots mine)),
)

steady_one : (p : Packet) (ps : List Packet) → is_plain_rst p ≡ false → steady (p ∷ ps) ≡ p ∷ steady ps
steady_one p ps is = rw is refl

steady_next : (mine other : History) (p : Packet) → is_plain_rst p ≡ false → IsNext mine other p
    → IsNext (steadied mine) (steadied other) p
steady_next mine other p plain (rest, is) = (
  steady rest,
  steady_puts other ∙ ap steady is ∙ steady_append rest (p ∷ gots mine)
      ∙ ap (λ ps. steady rest ++ ps) (steady_one p (gots mine) plain ∙ ap (λ ps. p ∷ ps) (sym (steady_gots mine))),
)

-- What an end put is formed.
formed_among : (side : Side) (h : History) (rest front : List Packet) (p : Packet) → IsFairBeside side h → puts h ≡ rest ++ p ∷ front
    → IsFormed p
formed_among side [] [] front p fair is = absurd cc
formed_among side [] (r ∷ rest) front p fair is = absurd cc
formed_among side (Put q ∷ h) [] front p fair is = let same : q ≡ p = cc in subst IsFormed same fair.0.formed
formed_among side (Put q ∷ h) (r ∷ rest) front p fair is = formed_among side h rest front p fair.1 cc
formed_among side (Got q ∷ h) rest front p fair is = formed_among side h rest front p fair.1 is

pub next_beside : (side : Side) (mine other : History) (p : Packet) → IsFairBeside side mine → IsFairBeside (peer side) other
    → IsNext mine other p → HasGot other mine → AllowsBeside side (present mine) (Got p)
next_beside side mine other p fair fair_other after got = record {
  formed = formed_among (peer side) other after.0 (gots mine) p fair_other after.1;
  steadily = λ plain.
      let fair_mine = steadied_fair side mine fair in
      let may = next_allowed side (steadied mine) (steadied other) p fair_mine (steadied_fair (peer side) other fair_other)
      (steady_next mine other p plain after) (steady_has_got other mine got) in
      subst₂ (λ ps qs. MayPutNow (peer side) ps qs p) (gots_now mine) (puts_now mine) (now side (steadied mine) (Got p) fair_mine may);
}

-- Credit on the present connection.
sound_same : (put got put' got' : List Packet) → Alike put put' → Alike got got' → BothSound put' got' → BothSound put got
sound_same put got put' got' a b s = grind (arith, common_steps)

pub sound_beside : (side : Side) (h : History) → IsFairBeside side h → BothSound (puts (present h)) (gots (present h))
sound_beside side h fair =
    let are = formed_now side h fair in
    let s = sound side (present (steadied h)) (fair_once side (steadied h) (steadied_fair side h fair)) in
    sound_same (puts (present h)) (gots (present h)) (steady (puts (present h))) (steady (gots (present h))) (alike (puts (present h)) are.put)
    (alike (gots (present h)) are.got) (subst₂ BothSound (puts_now h) (gots_now h) s)

within : (side : Side) (put got : List Packet) (p : Packet) → AllFormed put → AllFormed got → MayPutBeside side put got p
    → is_request p ≡ false → is_rst p ≡ false → (bytes put + size p ≤ allowance got) × (forwarded_by put p ≤ bytes got)
within side put got p formed_put formed_got may other plain = grind (arith, common_steps, alike)

pub within_put : (side : Side) (h : History) (p : Packet) → IsFairBeside side (Put p ∷ h) → is_request p ≡ false → is_rst p ≡ false
    → let now = present h in (bytes (puts now) + size p ≤ allowance (gots now)) × (forwarded_by (puts now) p ≤ bytes (gots now))
within_put side h p fair other plain =
    let are = formed_now side h fair.1 in within side (puts (present h)) (gots (present h)) p are.put are.got fair.0 other plain

pub within_got : (side : Side) (h : History) (p : Packet) → IsFairBeside side (Got p ∷ h) → is_request p ≡ false → is_rst p ≡ false
    → let now = present h in (bytes (gots now) + size p ≤ allowance (puts now)) × (forwarded_by (gots now) p ≤ bytes (puts now))
within_got side h p fair other plain =
    let are = formed_now side h fair.1 in within (peer side) (gots (present h)) (puts (present h)) p are.got are.put fair.0 other plain
