-- Bytes by a rule, run by run.
use Rattle.std.proofs.Common.{◌≡◌, ◌≤◌, ◌<◌, ℕ, zero, suc, ◌+◌, ◌*◌, ◌-◌, ◌/◌, ◌%◌, min, List, [], ◌∷◌, ◌++◌, length, map, take, drop, ap, sym, refl, ◌∙◌, arith}
use Rattle.std.{proofs.{lemmas.List.{drop-drop, length-drop, FromFn.{length-map-range_with_len, take-map-range_with_len}}, Math.Seq.take-add}, specs.List.range_with_len}
use Rattle.vs_script.specs.{declared.data.TheConstants.SEVENS, Data.{Content, Fill, Given, bytes_of, filled, filled_bytes, size_of}}

abbrev seven : ℕ → ℕ
seven x = 7 * x % 256

table : SEVENS ≡ map seven (range_with_len 0 507)
table = refl

part : (f : ℕ → ℕ) (k n m a : ℕ) → k + m ≤ n → take m (drop k (map f (range_with_len a n))) ≡ map f (range_with_len (a + k) m)
part f zero n m a within = take-map-range_with_len f a n m (omega arith) ∙ ap (λ b. map f (range_with_len b m)) (omega arith)
part f (suc k) zero m a within = absurd (omega arith)
part f (suc k) (suc n) m a within = part f k n m (a + 1) (omega arith) ∙ ap (λ b. map f (range_with_len b m)) (omega arith)

same : (f g : ℕ → ℕ) (a b n : ℕ) → ((j : ℕ) → j < n → f (a + j) ≡ g (b + j)) → map f (range_with_len a n) ≡ map g (range_with_len b n)
same f g a b zero each = refl
same f g a b (suc n) each =
    let left : a ≡ a + 0 = omega arith in
    let right : b + 0 ≡ b = omega arith in
    let here : f a ≡ g b = ap f left ∙ each 0 (omega arith) ∙ ap g right in
    ap (λ x. x ∷ map f (range_with_len (a + 1) n)) here
    ∙ ap (λ xs. g b ∷ xs) (same f g (a + 1) (b + 1) n (λ j less.
    let l : a + 1 + j ≡ a + suc j = omega arith in
    let r : b + suc j ≡ b + 1 + j = omega arith in
    ap f l ∙ each (suc j) (omega arith) ∙ ap g r))

in_table : (start run j : ℕ) → j < 251 → seven ((183 * start + 178 * run) % 256 + j) ≡ filled start (251 * run + j)
in_table start run j less =
    let run_of_it : (251 * run + j) / 251 ≡ run = omega arith in
    let whole : 7 * ((183 * start + 178 * run) % 256 + j) % 256 ≡ (start + 7 * (251 * run + j) + run) % 256 = omega arith in
    whole ∙ ap (λ k. (start + 7 * (251 * run + j) + k) % 256) (sym run_of_it)

-- A part of a run is a part of the table.
pub in_run : (start n place count first : ℕ) (ys : List ℕ) → place + count ≤ n → place % 251 + count ≤ 251
    → first ≡ (183 * start + 178 * (place / 251)) % 256 + place % 251 → ys ≡ take count (drop first SEVENS)
    → ys ≡ take (length ys) (drop place (filled_bytes n start))
in_run start n place count first ys within few here piece =
    let fits : first + count ≤ 507 = omega arith in
    let of_table : ys ≡ map seven (range_with_len (0 + first) count) =
    piece ∙ ap (λ t. take count (drop first t)) table ∙ part seven first 507 count 0 fits in
    let of_rule : map seven (range_with_len (0 + first) count) ≡ map (λ i. filled start i) (range_with_len (0 + place) count) =
    same seven (λ i. filled start i) (0 + first) (0 + place) count (λ j less.
    let l : 0 + first + j ≡ (183 * start + 178 * (place / 251)) % 256 + (place % 251 + j) = omega arith in
    let r : 251 * (place / 251) + (place % 251 + j) ≡ 0 + place + j = omega arith in
    ap seven l ∙ in_table start (place / 251) (place % 251 + j) (omega arith) ∙ ap (λ i. filled start i) r) in
    let long : count ≡ length ys = sym (ap length of_table ∙ length-map-range_with_len seven (0 + first) count) in
    of_table ∙ of_rule ∙ sym (part (λ i. filled start i) place n count 0 within)
    ∙ ap (λ k. take k (drop place (filled_bytes n start))) long

-- One part more.
pub more_of_them : (from done count : ℕ) (whole : List ℕ)
    → take done (drop from whole) ++ take count (drop (from + done) whole) ≡ take (done + count) (drop from whole)
more_of_them from done count whole =
    sym (take-add done count (drop from whole) ∙ ap (λ xs. take done (drop from whole) ++ take count xs) (drop-drop done from whole))

pub is_long : (c : Content) → length (bytes_of c) ≡ size_of c
is_long (Given bytes) = refl
is_long (Fill n start) = length-map-range_with_len (λ i. filled start i) 0 n

taken_all : (most : ℕ) (xs : List ℕ) (n : ℕ) → length xs ≡ n → take (min most n) xs ≡ take most xs
taken_all zero xs n long = let none : min 0 n ≡ 0 = omega arith in ap (λ k. take k xs) none
taken_all (suc most) [] n long = let none : min (suc most) n ≡ 0 = omega (arith, long) in ap (λ k. take {A = ℕ} k []) none
taken_all (suc most) (x ∷ xs) zero long = absurd (omega (arith, long))
taken_all (suc most) (x ∷ xs) (suc n) long =
    let more : min (suc most) (suc n) ≡ suc (min most n) = omega arith in
    ap (λ k. take k (x ∷ xs)) more ∙ ap (λ ys. x ∷ ys) (taken_all most xs n (omega (arith, long)))

-- All that there are.
pub all_of_them : (from most done n start : ℕ) → done ≡ min most (n - from)
    → take done (drop from (filled_bytes n start)) ≡ take most (drop from (filled_bytes n start))
all_of_them from most done n start is =
    let rest = drop from (filled_bytes n start) in
    let long : length rest ≡ n - from = length-drop from (filled_bytes n start) ∙ ap (λ k. k - from) (is_long (Fill n start)) in
    ap (λ k. take k rest) is ∙ taken_all most rest (n - from) long
