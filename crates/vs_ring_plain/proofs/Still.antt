-- Taking a chain of one descriptor from a memory that nobody else changes.
use Rattle.std.proofs.lemmas.Grind.{common_steps}
use Rattle.std.proofs.{Common.{◌≡◌, ℕ, suc, ◌-◌, ◌<◌, Bool, true, false, cond, List, [], ◌∷◌, refl, sym, ap, ◌∙◌, subst, arith}, lemmas.Bool.Decides.nat_tests}
use Rattle.std.specs.Prelude.{◌==◌, nat_le, nat_lt}
use Rattle.vs_guest_mem.specs.Memory.{Change, Memory, after_access, bytes_at, is_within}
use Rattle.vs_layout.specs.{declared.entry.{TheConstants.{INDIRECT, NEXT}, Desc.Desc}, Entry.desc_of, Layout.desc_entry}
use Rattle.vs_ring_plain.specs.Chain.{Ring, Taken, Chain, Failed, NoChain, ahead, has, in_queue, piece_of, taking, too_small, total_len, unless}
use Rattle.vs_ring_plain.specs.{Chain.wrong_way, declared.piece.Piece.Piece, Accesses.{Accesses, Done, over}, Still.{IsGiven, IsStill, index_in}}
use Rattle.vs_ring_port.specs.declared.failure.Failure.{Failure, TheVariants.HeadRange}

-- the memory of these parts, to which no change is to come
abbrev pub quiet : ℕ → List ℕ → ℕ → Memory
quiet base bytes accesses = record { base = base; bytes = bytes; accesses = accesses; changes = [] }

pub is_quiet : (m : Memory) → IsStill m → m ≡ quiet m.base m.bytes m.accesses
is_quiet m still =
    ap (λ (cs : List Change). let x : Memory = record { base = m.base; bytes = m.bytes; accesses = m.accesses; changes = cs } in x) still

pub still_bytes : (m : Memory) → IsStill m → (after_access m).bytes ≡ m.bytes
still_bytes m still = ap (λ (x : Memory). (after_access x).bytes) (is_quiet m still)

pub still_after : (m : Memory) → IsStill m → IsStill (after_access m)
still_after m still = ap (λ (x : Memory). (after_access x).changes) (is_quiet m still)

-- a test that fails
skips : (b : Bool) (f : Failure) (next : Accesses Taken) (m : Memory) → b ≡ false → over (cond b (Done (Failed f)) next) m ≡ over next m
skips b f next m off = rw off refl

chosen : (b : Bool) (x y : Accesses Taken) (m : Memory) → b ≡ false → over (cond b x y) m ≡ over y m
chosen b x y m off = rw off refl

-- a descriptor that is the last of its chain
last_one : (r : Ring) (left head base accesses : ℕ) (bytes : List ℕ) (d : Desc) (ends : List Piece → Accesses Taken)
    → head < r.n → desc_of (bytes_at (quiet base bytes accesses) (desc_entry r.areas head).at 16) ≡ d → has d INDIRECT ≡ false
    → has d NEXT ≡ false → (wrong_way r.queue head d).0 ≡ false → is_within r.base r.size d.addr d.len ≡ true
    → over (in_queue r (suc left) head [] ends) (quiet base bytes accesses) ≡ over (ends (piece_of d ∷ [])) (after_access (quiet base bytes accesses))
last_one r left head base accesses bytes d ends within desc direct last way inside = grind (arith, common_steps)

-- what comes at the end of the chain
abbrev ends_with : Ring → ℕ → List Piece → Accesses Taken
ends_with r head pieces = unless (too_small r.queue (total_len pieces) ∷ []) (Done (Chain head pieces))

-- the steps before and after it
taken_quiet : (r : Ring) (taken head base accesses : ℕ) (bytes : List ℕ) (d : Desc) → IsGiven r taken head d (quiet base bytes accesses)
    → over (taking r taken) (quiet base bytes accesses)
    ≡ (Chain head (piece_of d ∷ []), after_access (after_access (after_access (quiet base bytes accesses))))
taken_quiet r taken head base accesses bytes d g =
    let m = quiet base bytes accesses in
    let m1 = after_access m in
    let m2 = after_access m1 in
    let idx = index_in r m in
    let few : nat_lt r.n (ahead idx taken) ≡ false = grind (arith, nat_tests, g.few) in
    let some : (ahead idx taken == 0) ≡ false = grind (arith, nat_tests, g.some) in
    let below : nat_le r.n head ≡ false = grind (arith, nat_tests, g.within) in
    let places : r.n ≡ suc (r.n - 1) = omega (arith, g.within) in
    skips (nat_lt r.n (ahead idx taken)) _ _ m1 few
    ∙ chosen (ahead idx taken == 0) _ _ m1 some
    ∙ ap (λ (h : ℕ). over (cond (nat_le r.n h) (Done (Failed (HeadRange h r.n))) (in_queue r r.n h [] (ends_with r h))) m2) g.entry
    ∙ skips (nat_le r.n head) _ _ m2 below
    ∙ ap (λ (k : ℕ). over (in_queue r k head [] (ends_with r head)) m2) places
    ∙ last_one r (r.n - 1) head base m2.accesses bytes d (ends_with r head) g.within g.desc g.direct g.last g.way g.inside
    ∙ skips (too_small r.queue (total_len (piece_of d ∷ []))).0 _ _ (after_access m2) g.long

pub taken_still : (r : Ring) (taken head : ℕ) (d : Desc) (m : Memory) → IsStill m → IsGiven r taken head d m
    → over (taking r taken) m ≡ (Chain head (piece_of d ∷ []), after_access (after_access (after_access m)))
taken_still r taken head d m still g =
    subst (λ (x : Memory). over (taking r taken) x ≡ (Chain head (piece_of d ∷ []), after_access (after_access (after_access x))))
    (sym (is_quiet m still))
    (taken_quiet r taken head m.base m.accesses m.bytes d (subst (λ (x : Memory). IsGiven r taken head d x) (is_quiet m still) g))

pub none_still : (r : Ring) (taken : ℕ) (m : Memory) → IsStill m → ahead (index_in r m) taken ≡ 0
    → over (taking r taken) m ≡ (NoChain, after_access m)
none_still r taken m still none = grind (arith, common_steps)
