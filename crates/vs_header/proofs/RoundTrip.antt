-- A number's bytes and the number of bytes undo each other, and so do a header's bytes and the header of bytes.
use Rattle.std.proofs.Common.{◌≡◌, ℕ, zero, suc, ◌+◌, ◌/◌, ◌%◌, ◌^◌, ◌<◌, ◌≤◌, List, [], ◌∷◌, ◌++◌, length, take, drop, slice_index, refl, sym, ap, ◌∙◌, arith, length-drop}
use Rattle.std.{proofs.{Common.get_or-drop, Math.Nat.{div-div-eq-div-mul, div-one, pow-succ'}, lemmas.List.{append-nil, drop-drop, take-append-drop, take_all}}, specs.Int.byte_at}
use Rattle.std.specs.Int.{bytes_low_first}
use Rattle.byteorder.specs.{Endian.{little_bytes, little_from, little_number}, Numbers.{little_from-cons, little_number-reads_back}}
use Rattle.vs_header.specs.{declared.Header.Header, Packet.{field_at, header_bytes, header_of}}

-- a byte of a number, by its place
byte_at-pow : (i x : ℕ) → byte_at i x ≡ x / 256 ^ i % 256
byte_at-pow zero x = ap (λ (y : ℕ). y % 256) (sym (div-one x))
byte_at-pow (suc i) x = refl

-- the bytes above the lowest are the bytes of the number without its lowest
bytes_low_first-suc : (i k x : ℕ) → bytes_low_first (suc i) k x ≡ bytes_low_first i k (x / 256)
bytes_low_first-suc i zero x = refl
bytes_low_first-suc i (suc k) x =
    let byte : byte_at (suc i) x ≡ byte_at i (x / 256) =
    ap (λ (p : ℕ). x / p % 256) (pow-succ' 256 i) ∙ ap (λ (q : ℕ). q % 256) (sym (div-div-eq-div-mul x 256 (256 ^ i)))
    ∙ sym (byte_at-pow i (x / 256)) in
    rw (byte, bytes_low_first-suc (suc i) k x) refl

-- the bytes of the number that n bytes make are these bytes
pub little_bytes-little_number : (n : ℕ) (xs : List ℕ) → n ≤ length xs → ((i : ℕ) → slice_index xs i < 256)
    → little_bytes n (little_number n xs) ≡ take n xs
little_bytes-little_number zero xs long fit = refl
little_bytes-little_number (suc n) [] long fit = absurd (omega arith)
little_bytes-little_number (suc n) (y ∷ ys) long fit =
    let byte : y < 256 = fit 0 in
    let moved = little_from-cons 0 n y ys in
    let whole : ℕ = little_from 0 (suc n) (y ∷ ys) in
    let low : whole % 256 ≡ y = omega arith in
    let high : whole / 256 ≡ little_from 0 n ys = omega arith in
    let rest = little_bytes-little_number n ys (omega arith) (λ i. fit (suc i)) in
    let above : bytes_low_first 1 n whole ≡ take n ys = bytes_low_first-suc 0 n whole ∙ ap (bytes_low_first 0 n) high ∙ rest in
    ap (λ (b : ℕ). b ∷ bytes_low_first 1 n whole) low ∙ ap (λ (r : List ℕ). y ∷ r) above

-- the number that the bytes of a number make is that number
pub little_number-little_bytes : (n x : ℕ) → x < 256 ^ n → little_number n (little_bytes n x) ≡ x
little_number-little_bytes n x fits =
    ap (little_number n) (sym (append-nil (little_bytes n x))) ∙ little_number-reads_back n x [] fits

-- headers of equal fields are equal
pub same_header : {a0 a1 a2 a3 a4 a5 a6 a7 a8 a9 b0 b1 b2 b3 b4 b5 b6 b7 b8 b9 : ℕ}
    → a0 ≡ b0 → a1 ≡ b1 → a2 ≡ b2 → a3 ≡ b3 → a4 ≡ b4 → a5 ≡ b5 → a6 ≡ b6 → a7 ≡ b7 → a8 ≡ b8 → a9 ≡ b9
    → ◌≡◌ {A = Header} record {
      src_cid = a0;
      dst_cid = a1;
      src_port = a2;
      dst_port = a3;
      len = a4;
      kind = a5;
      op = a6;
      flags = a7;
      buf_alloc = a8;
      fwd_cnt = a9;
    }
    record {
      src_cid = b0;
      dst_cid = b1;
      src_port = b2;
      dst_port = b3;
      len = b4;
      kind = b5;
      op = b6;
      flags = b7;
      buf_alloc = b8;
      fwd_cnt = b9;
    }
same_header e0 e1 e2 e3 e4 e5 e6 e7 e8 e9 = cc

-- a header comes back from its bytes
pub header_of-header_bytes : (h : Header)
    → h.src_cid < 2 ^ 64 → h.dst_cid < 2 ^ 64 → h.src_port < 2 ^ 32 → h.dst_port < 2 ^ 32 → h.len < 2 ^ 32
    → h.kind < 2 ^ 16 → h.op < 2 ^ 16 → h.flags < 2 ^ 32 → h.buf_alloc < 2 ^ 32 → h.fwd_cnt < 2 ^ 32
    → header_of (header_bytes h) ≡ h
header_of-header_bytes h f0 f1 f2 f3 f4 f5 f6 f7 f8 f9 =
    same_header
    (little_number-little_bytes 8 h.src_cid f0)
    (little_number-little_bytes 8 h.dst_cid f1)
    (little_number-little_bytes 4 h.src_port f2)
    (little_number-little_bytes 4 h.dst_port f3)
    (little_number-little_bytes 4 h.len f4)
    (little_number-little_bytes 2 h.kind f5)
    (little_number-little_bytes 2 h.op f6)
    (little_number-little_bytes 4 h.flags f7)
    (little_number-little_bytes 4 h.buf_alloc f8)
    (little_number-little_bytes 4 h.fwd_cnt f9)

-- the n bytes from a place, and what stands after them
joined : (n place next : ℕ) (xs front rest : List ℕ) → place + n ≡ next → front ≡ take n (drop place xs) → rest ≡ drop next xs
    → front ++ rest ≡ drop place xs
joined n place next xs front rest at f r =
    rw (f, r, ← at, ← drop-drop n place xs) (take-append-drop n (drop place xs))

-- 44 bytes come back from the header that they hold
pub header_bytes-header_of : (xs : List ℕ) → length xs ≡ 44 → ((i : ℕ) → slice_index xs i < 256)
    → header_bytes (header_of xs) ≡ xs
header_bytes-header_of xs len fit =
    joined 8 0 8 xs _ _ refl (field 0 8 (omega arith)) (
    joined 8 8 16 xs _ _ refl (field 8 8 (omega arith)) (
    joined 4 16 20 xs _ _ refl (field 16 4 (omega arith)) (
    joined 4 20 24 xs _ _ refl (field 20 4 (omega arith)) (
    joined 4 24 28 xs _ _ refl (field 24 4 (omega arith)) (
    joined 2 28 30 xs _ _ refl (field 28 2 (omega arith)) (
    joined 2 30 32 xs _ _ refl (field 30 2 (omega arith)) (
    joined 4 32 36 xs _ _ refl (field 32 4 (omega arith)) (
    joined 4 36 40 xs _ _ refl (field 36 4 (omega arith)) (
    field 40 4 (omega arith) ∙ take_all 4 (drop 40 xs) (omega (arith, length-drop 40 xs)))))))))))
  where
    field : (place n : ℕ) → place + n ≤ 44 → little_bytes n (field_at place n xs) ≡ take n (drop place xs)
    field place n within =
        little_bytes-little_number n (drop place xs) (omega (arith, length-drop place xs)) (λ i. rw get_or-drop (fit (place + i)))
