-- Taking a chain makes few accesses, and none outside the memory.
use Rattle.std.proofs.Common.{◌≡◌, ℕ, zero, suc, ◌+◌, ◌*◌, ◌/◌, ◌%◌, ◌<◌, ◌≤◌, ◌==◌, ◌||◌, Bool, true, false, cond, not, IsTrue, List, [], ◌∷◌, refl, arith}
use Rattle.std.{proofs.lemmas.Bool.Decides.nat_tests, specs.Prelude.{◌^◌, nat_le, nat_lt}}
use Rattle.byteorder.specs.Endian.{little_number}
use Rattle.vs_guest_mem.specs.Memory.{is_within}
use Rattle.vs_layout.specs.{declared.entry.{TheConstants.{INDIRECT, NEXT}, Desc.Desc}, Entry.desc_of, Layout.{AreInside, avail_entry, desc_entry}}
use Rattle.vs_ring_plain.specs.Chain.{Ring, Taken, Chain, NoChain, Failed, unless, piece, in_table, table_faults, in_queue, taking, has, ahead, too_small, total_len}
use Rattle.vs_ring_plain.{specs.{Accesses.{Accesses, Done, Read, MakesAtMost}, declared.piece.Piece.Piece}, proofs.Outcomes.choice}
use Rattle.vs_ring_port.specs.declared.failure.Failure.{TheVariants.{AddrRange, AvailJump, HeadRange, Indirect, IndirectLen, IndirectNested, IndirectNext, NextRange}, Failure}

done : {A : Type 0} (k : ℕ) (P : ℕ → ℕ → Type 0) (a : A) → MakesAtMost k P (Done a)
unfolding MakesAtMost
done zero P a = tt
done (suc k) P a = tt

reads : {A : Type 0} (k : ℕ) (P : ℕ → ℕ → Type 0) (addr len : ℕ) (next : List ℕ → Accesses A) → P addr len
    → ((bytes : List ℕ) → MakesAtMost k P (next bytes)) → MakesAtMost (suc k) P (Read addr len next)
unfolding MakesAtMost
reads k P addr len next here then = (here, then)

-- a failure, or else what comes next
fails_or : (k : ℕ) (P : ℕ → ℕ → Type 0) (b : Bool) (f : Failure) (next : Accesses Taken) → (b ≡ false → MakesAtMost k P next)
    → MakesAtMost k P (cond b (Done (Failed f)) next)
fails_or k P b f next comes = choice (MakesAtMost k P) b (Done (Failed f)) next (λ _. done k P (Failed f)) comes

-- one of two
either : (k : ℕ) (P : ℕ → ℕ → Type 0) (b : Bool) (x y : Accesses Taken) → MakesAtMost k P x → MakesAtMost k P y → MakesAtMost k P
    (cond b x y)
either k P b x y here there = choice (MakesAtMost k P) b x y (λ _. here) (λ _. there)

piece_bounded : (k : ℕ) (P : ℕ → ℕ → Type 0) (r : Ring) (number : ℕ) (d : Desc) (before : List Piece) (ends goes_on : List Piece
    → Accesses Taken)
    → ((now : List Piece) → MakesAtMost k P (ends now)) → ((now : List Piece) → MakesAtMost k P (goes_on now))
    → MakesAtMost k P (piece r number d before ends goes_on)
piece_bounded k P r number d before ends goes_on last more =
    search (fails_or, either, done)

below : (a b : ℕ) → nat_le a b ≡ false → b < a
below a b h = grind (arith, nat_tests)

in_table_bounded : (P : ℕ → ℕ → Type 0) (left : ℕ) (r : Ring) (at entries number : ℕ) (before : List Piece) (ends : List Piece
    → Accesses Taken)
    → ((number : ℕ) → number < entries → P (at + 16 * number) 16)
    → ((k : ℕ) (now : List Piece) → MakesAtMost k P (ends now)) → MakesAtMost left P (in_table r at entries left number before ends)
in_table_bounded P zero r at entries number before ends inside last = done 0 P _
in_table_bounded P (suc left) r at entries number before ends inside last =
    let next : (d : Desc) → MakesAtMost left P (unless ((has d INDIRECT, IndirectNested number) ∷ []) (piece r number d before ends
    (λ now. in_table r at entries left d.next now ends))) =
    λ d. fails_or left P (has d INDIRECT) (IndirectNested number) _ (λ _. piece_bounded left P r number d before ends _ (last left)
    (λ now. in_table_bounded P left r at entries d.next now ends inside last)) in
    fails_or (suc left) P (nat_le entries number) (NextRange number entries) _ (λ ok. reads left P (at + 16 * number) 16 _
    (inside number (below entries number ok)) (λ bytes. next (desc_of bytes)))

table_bounded : (k : ℕ) (P : ℕ → ℕ → Type 0) (r : Ring) (number : ℕ) (d : Desc) (next : Accesses Taken)
    → (IsTrue (is_within r.base r.size d.addr d.len) → MakesAtMost k P next) → MakesAtMost k P (unless (table_faults r number d) next)
table_bounded k P r number d next comes =
    fails_or k P (not r.indirect) (Indirect number) _ (λ _.
    fails_or k P (not (is_within r.base r.size d.addr d.len)) (AddrRange d.addr d.len) _ (λ inside.
    fails_or k P (has d NEXT) (IndirectNext number) _ (λ _.
    fails_or k P ((d.len == 0) || not (d.len % 16 == 0)) (IndirectLen d.len) next (λ _. comes (not_false
    (is_within r.base r.size d.addr d.len) inside)))))
  where
    not_false : (b : Bool) → not b ≡ false → IsTrue b
    not_false true h = refl
    not_false false h = cc

in_queue_bounded : (P : ℕ → ℕ → Type 0) (left : ℕ) (r : Ring) (number : ℕ) (before : List Piece) (ends : List Piece → Accesses Taken)
    → ((number : ℕ) → number < r.n → P (desc_entry r.areas number).at 16)
    → ((addr len number : ℕ) → IsTrue (is_within r.base r.size addr len) → number < len / 16 → P (addr + 16 * number) 16)
    → ((k : ℕ) (now : List Piece) → MakesAtMost k P (ends now)) → MakesAtMost (suc left) P (in_queue r left number before ends)
in_queue_bounded P zero r number before ends inside tables last = done 1 P _
in_queue_bounded P (suc left) r number before ends inside tables last =
    let table : (d : Desc) → MakesAtMost (suc left) P (unless (table_faults r number d) (in_table r d.addr (d.len / 16)
    (suc left) 0 before ends)) =
    λ d. table_bounded (suc left) P r number d _ (λ lies. in_table_bounded P (suc left) r d.addr (d.len / 16) 0 before ends
    (λ place short. tables d.addr d.len place lies short) last) in
    let one : (d : Desc) → MakesAtMost (suc left) P (piece r number d before ends (λ now. in_queue r left d.next now ends)) =
    λ d. piece_bounded (suc left) P r number d before ends _ (last (suc left))
    (λ now. in_queue_bounded P left r d.next now ends inside tables last) in
    fails_or (suc (suc left)) P (nat_le r.n number) (NextRange number r.n) _ (λ ok.
    reads (suc left) P (desc_entry r.areas number).at 16 _ (inside number (below r.n number ok)) (λ bytes.
    let d = desc_of bytes in either (suc left) P (has d INDIRECT) _ _ (table d) (one d)))

-- a piece that begins and ends in the memory lies within it
within : (base size addr len : ℕ) → base ≤ addr → addr + len ≤ base + size → IsTrue (is_within base size addr len)
within base size addr len from to = grind (arith, nat_tests)

-- a descriptor of a table that lies in the memory lies in it too
entry_within : (base size addr len number : ℕ) → IsTrue (is_within base size addr len) → number < len / 16 → IsTrue
    (is_within base size (addr + 16 * number) 16)
entry_within base size addr len number lies short = grind (arith, nat_tests)

pub taking_bounded : (r : Ring) (taken : ℕ) → AreInside r.areas r.n record { at = r.base; len = r.size }
    → MakesAtMost (suc (suc (suc r.n))) (λ addr len. IsTrue (is_within r.base r.size addr len)) (taking r taken)
taking_bounded r taken areas =
    let P : ℕ → ℕ → Type 0 = λ addr len. IsTrue (is_within r.base r.size addr len) in
    let n : ℕ = r.n in
    let descriptor : (number : ℕ) → number < r.n → P (desc_entry r.areas number).at 16 =
    λ number short. within r.base r.size (r.areas.desc + 16 * number) 16 (omega (arith, areas.desc_inside)) (omega
    (arith, areas.desc_inside)) in
    let chain : (head : ℕ) → MakesAtMost (suc r.n) P (in_queue r r.n head [] (λ pieces. unless (too_small r.queue
    (total_len pieces) ∷ []) (Done (Chain head pieces)))) =
    λ head. in_queue_bounded P r.n r head [] _ descriptor (λ addr len number lies short. entry_within r.base r.size addr len number lies short)
    (λ k now. fails_or k P (too_small r.queue (total_len now)).0 (too_small r.queue (total_len now)).1 (Done (Chain head now))
    (λ _. done k P (Chain head now))) in
    let entry : (idx : ℕ) → 0 < ahead idx taken → ahead idx taken ≤ r.n → MakesAtMost (suc (suc r.n)) P (Read (avail_entry r.areas
    (taken % r.n)).at 2 (λ entry.
    let head = little_number 2 entry in
    unless ((nat_le r.n head, HeadRange head r.n) ∷ []) (in_queue r r.n head [] (λ pieces. unless (too_small r.queue
    (total_len pieces) ∷ []) (Done (Chain head pieces)))))) =
    λ idx some few. reads (suc r.n) P (r.areas.avail + 4 + 2 * (taken % r.n)) 2 _
    (within r.base r.size (r.areas.avail + 4 + 2 * (taken % r.n)) 2 (omega (arith, areas.avail_inside)) (omega
    (arith, areas.avail_inside, place_below taken r.n (omega arith))))
    (λ bytes. fails_or (suc r.n) P (nat_le r.n (little_number 2 bytes)) (HeadRange (little_number 2 bytes) r.n) _ (λ _. chain
    (little_number 2 bytes))) in
    reads (suc (suc r.n)) P (r.areas.avail + 2) 2 _ (within r.base r.size (r.areas.avail + 2) 2 (omega (arith, areas.avail_inside))
    (omega (arith, areas.avail_inside)))
    (λ bytes. let idx = little_number 2 bytes in
    fails_or (suc (suc r.n)) P (nat_lt r.n (ahead idx taken)) (AvailJump (taken % 2 ^ 16) idx) _ (λ few.
    choice (MakesAtMost (suc (suc r.n)) P) (ahead idx taken == 0) (Done NoChain) _ (λ _. done (suc (suc r.n)) P NoChain)
    (λ some. entry idx (not_zero (ahead idx taken) some) (at_most r.n (ahead idx taken) few))))
  where
    place_below : (a n : ℕ) → 0 < n → a % n < n
    place_below a n positive = omega arith

    not_zero : (a : ℕ) → (a == 0) ≡ false → 0 < a
    not_zero a h = grind (arith, nat_tests)

    at_most : (n a : ℕ) → nat_lt n a ≡ false → a ≤ n
    at_most n a h = grind (arith, nat_tests)
