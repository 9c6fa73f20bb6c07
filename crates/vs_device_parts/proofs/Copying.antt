-- The OK line and the payload behind it, copied into one buffer.
use Rattle.std.proofs.Common.{◌≡◌, ℕ, ◌+◌, ◌-◌, ◌≤◌, List, ◌++◌, length, min, take, sym, ap, ◌∙◌, arith, length-append}
use Rattle.std.proofs.{lemmas.List.{take_min, take-append-le, length-take, length-take-le}, Math.Seq.{take-append-add, take-length}}

module _ (n l p : ℕ) (line pending : List ℕ) (fits : length line ≤ n) (first : l ≡ length line) (second : p ≡ min (n - l) (length pending)) where
  pub count_is : l + p ≡ length (take n (line ++ pending))
  count_is =
      let long = length-take n (line ++ pending) in
      let both = length-append line pending in
      omega (arith, first, second, fits, long, both)

  pub copied : (o1 o2 r1 r2 post : List ℕ) → o1 ≡ take l line ++ r1 → o2 ≡ take p pending ++ r2
      → take (l + p) (take l o1 ++ (o2 ++ post)) ≡ take n (line ++ pending)
  copied o1 o2 r1 r2 post is1 is2 =
      let whole : take l line ≡ line = ap (λ (k : ℕ). take k line) first ∙ take-length line in
      let long : length (take l line) ≡ l = ap length whole ∙ sym first in
      let front : take l o1 ≡ line =
      ap (take l) is1 ∙ (take-append-le l (take l line) r1 (omega (arith, long))
      ∙ (ap (take l) whole ∙ whole)) in
      let short : length (take p pending) ≡ p = length-take-le p pending (omega (arith, second)) in
      let back : take p (o2 ++ post) ≡ take p pending =
      take-append-le p o2 post (omega (arith, short, ap length is2, length-append (take p pending) r2))
      ∙ (ap (take p) is2 ∙ (take-append-le p (take p pending) r2 (omega (arith, short)) ∙ (ap (λ (k : ℕ). take k (take p pending)) (sym short) ∙ take-length (take p pending)))) in
      let rest : take p pending ≡ take (n - l) pending = ap (λ (k : ℕ). take k pending) second ∙ take_min (n - l) pending in
      let room : n ≡ length line + (n - l) = omega (arith, first, fits) in
      ap (λ (f : List ℕ). take (l + p) (f ++ (o2 ++ post))) front
      ∙ (ap (λ (k : ℕ). take (k + p) (line ++ (o2 ++ post))) first
      ∙ (take-append-add line (o2 ++ post) p
      ∙ (ap (λ (b : List ℕ). line ++ b) (back ∙ rest)
      ∙ (sym (take-append-add line pending (n - l)) ∙ ap (λ (k : ℕ). take k (line ++ pending)) (sym room)))))
