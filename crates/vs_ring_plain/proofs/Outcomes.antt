-- What comes of accesses: they leave the memory where it begins, and a chain that is taken has pieces that lie in it.
use Rattle.std.proofs.Common.{◌≡◌, ℕ, zero, suc, ◌+◌, ◌≤◌, Bool, true, false, cond, not, List, [], ◌∷◌, ◌++◌, length, refl, arith, length-append, All, IsTrue}
use Rattle.std.{proofs.lemmas.List.Elements.{All-nil, All-push}, specs.{Bool.⊤, Prelude.{◌==◌, ◌||◌, ◌%◌, ◌/◌, nat_le, nat_lt}}}
use Rattle.vs_guest_mem.specs.Memory.{Memory, accessed, after_write, bytes_at, is_within}
use Rattle.vs_layout.specs.{Entry.desc_of, declared.entry.{Desc.Desc, TheConstants.{INDIRECT, NEXT}}}
use Rattle.vs_ring_plain.specs.Chain.{Ring, Taken, NoChain, Chain, Failed, ahead, unless, piece, piece_of, in_table, in_queue, taking, has, too_small, total_len, wrong_way}
use Rattle.vs_ring_plain.specs.{Accesses.{Accesses, Done, Read, Write, over}, declared.piece.Piece.Piece}
use Rattle.byteorder.specs.Endian.{little_number}

-- P holds of whatever comes of it
unfoldable pub Yields : {A : Type 0} → (A → Type 0) → Accesses A → Type 0
Yields P (Done a) = P a
Yields P (Read addr len next) = (bytes : List ℕ) → Yields P (next bytes)
Yields P (Write addr bytes next) = Yields P next

pub over_yields : {A : Type 0} (P : A → Type 0) (t : Accesses A) (m : Memory) → Yields P t → P (over t m).0
unfolding Yields
over_yields P (Done a) m y = y
over_yields P (Read addr len next) m y =
    over_yields P (next (bytes_at (accessed m len) addr len)) (accessed m len) (y (bytes_at (accessed m len) addr len))
over_yields P (Write addr bytes next) m y = over_yields P next (after_write (accessed m (length bytes)) addr bytes) y

-- pieces that lie in the memory, no more than the queue has places
pub record IsWalked (r : Ring) (pieces : List Piece) : Type 0 where
  pub inside : All (λ (p : Piece). IsTrue (is_within r.base r.size p.addr p.len)) pieces
  pub few : length pieces ≤ r.n

-- those of a chain, which is long enough
pub record IsGood (r : Ring) (pieces : List Piece) : Type 0 where
  pub walked : IsWalked r pieces
  pub long : (too_small r.queue (total_len pieces)).0 ≡ false

abbrev pub IsGoodTaken : Ring → Taken → Type 0
IsGoodTaken r NoChain = ⊤
IsGoodTaken r (Chain head pieces) = IsGood r pieces
IsGoodTaken r (Failed failure) = ⊤

pub choice : {X : Type 0} (P : X → Type 0) (b : Bool) (x y : X) → (b ≡ true → P x) → (b ≡ false → P y) → P (cond b x y)
choice P true x y here there = here refl
choice P false x y here there = there refl

not_false : (b : Bool) → not b ≡ false → IsTrue b
not_false true h = refl
not_false false h = cc

module _ (r : Ring) where
  abbrev Good : Accesses Taken → Type 0
  Good t = Yields (IsGoodTaken r) t

  failed : (f : _) → Good (Done (Failed f))
  unfolding Yields
  failed f = tt

  fails_or : (b : Bool) (f : _) (next : Accesses Taken) → (b ≡ false → Good next) → Good (cond b (Done (Failed f)) next)
  fails_or b f next comes = choice Good b (Done (Failed f)) next (λ _. failed f) comes

  reads : (addr len : ℕ) (next : List ℕ → Accesses Taken) → ((bytes : List ℕ) → Good (next bytes)) → Good (Read addr len next)
  unfolding Yields
  reads addr len next then = then

  one : (number : ℕ) (d : Desc) (before : List Piece) (ends goes_on : List Piece → Accesses Taken) → IsWalked r before
      → suc (length before) ≤ r.n
      → ((now : List Piece) → IsWalked r now → Good (ends now))
      → ((now : List Piece) → IsWalked r now → length now ≡ length before + 1 → Good (goes_on now))
      → Good (piece r number d before ends goes_on)
  one number d before ends goes_on w some last more =
      let now : List Piece = before ++ piece_of d ∷ [] in
      let longer : length now ≡ length before + 1 = length-append before (piece_of d ∷ []) in
      fails_or (wrong_way r.queue number d).0 _ _ (λ _.
      fails_or (not (is_within r.base r.size d.addr d.len)) _ _ (λ inside.
      let walked : IsWalked r now = record {
        inside = All-push (λ (p : Piece). IsTrue (is_within r.base r.size p.addr p.len)) before (piece_of d) w.inside
            (not_false (is_within r.base r.size d.addr d.len) inside);
        few = omega (arith, longer, some);
      } in
      choice Good (has d NEXT) (goes_on now) (ends now) (λ _. more now walked longer) (λ _. last now walked)))

  table : (left at entries number : ℕ) (before : List Piece) (ends : List Piece → Accesses Taken) → IsWalked r before
      → length before + left ≤ r.n → ((now : List Piece) → IsWalked r now → Good (ends now))
      → Good (in_table r at entries left number before ends)
  table zero at entries number before ends w room last = failed _
  table (suc left) at entries number before ends w room last =
      fails_or (nat_le entries number) _ _ (λ _. reads _ _ _ (λ bytes.
      let d : Desc = desc_of bytes in
      fails_or (has d INDIRECT) _ _ (λ _.
      one number d before ends _ w (omega (arith, room)) last
      (λ now walked longer. table left at entries d.next now ends walked (omega (arith, room, longer)) last))))

  queue : (left number : ℕ) (before : List Piece) (ends : List Piece → Accesses Taken) → IsWalked r before
      → length before + left ≤ r.n → ((now : List Piece) → IsWalked r now → Good (ends now))
      → Good (in_queue r left number before ends)
  queue zero number before ends w room last = failed _
  queue (suc left) number before ends w room last =
      fails_or (nat_le r.n number) _ _ (λ _. reads _ _ _ (λ bytes.
      let d : Desc = desc_of bytes in
      choice Good (has d INDIRECT) _ _
      (λ _.
      fails_or (not r.indirect) _ _ (λ _.
      fails_or (not (is_within r.base r.size d.addr d.len)) _ _ (λ _.
      fails_or (has d NEXT) _ _ (λ _.
      fails_or ((d.len == 0) || not (d.len % 16 == 0)) _ _ (λ _. table (suc left) d.addr (d.len / 16) 0 before ends w room last)))))
      (λ _. one number d before ends _ w (omega (arith, room)) last
      (λ now walked longer. queue left d.next now ends walked (omega (arith, room, longer)) last))))

  found : (head : ℕ) (pieces : List Piece) → IsWalked r pieces
      → Good (unless (too_small r.queue (total_len pieces) ∷ []) (Done (Chain head pieces)))
  unfolding Yields
  found head pieces walked =
      choice Good (too_small r.queue (total_len pieces)).0 _ _ (λ _. tt) (λ long. record { walked = walked; long = long })

  none : Good (Done NoChain)
  unfolding Yields
  none = tt

  taking_good : (taken : ℕ) → Good (taking r taken)
  taking_good taken =
      let start : IsWalked r [] = record { inside = All-nil (λ (p : Piece). IsTrue (is_within r.base r.size p.addr p.len)); few = omega arith } in
      reads _ _ _ (λ bytes.
      fails_or (nat_lt r.n (ahead (little_number 2 bytes) taken)) _ _ (λ _.
      choice Good (ahead (little_number 2 bytes) taken == 0) _ _ (λ _. none) (λ _.
      reads _ _ _ (λ entry.
      fails_or (nat_le r.n (little_number 2 entry)) _ _ (λ _.
      queue r.n (little_number 2 entry) [] _ start (omega arith) (λ now walked. found (little_number 2 entry) now walked))))))

-- what comes of taking a chain over a memory
pub good_taken : (r : Ring) (taken : ℕ) (m : Memory) → IsGoodTaken r (over (taking r taken) m).0
good_taken r taken m = over_yields (IsGoodTaken r) (taking r taken) m (taking_good r taken)
