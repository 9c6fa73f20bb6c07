-- Places of a ring: indices modulo its size, which divides 2^16.
use Rattle.std.proofs.lemmas.Grind.{common_steps}
use Rattle.std.proofs.{Common.{◌≡◌, ℕ, ◌+◌, ◌*◌, ◌/◌, ◌%◌, ◌^◌, ◌<◌, sym, ap, ◌∙◌, subst, arith}, Math.Nat.{mul-add-mod_self_right}}
use Rattle.std.{proofs.{lemmas.{Nat.{div-add-mod', mod-mul-add}}}}

-- the index may run modulo 2^16
pub wraps : (n a : ℕ) → 2 ^ 16 % n ≡ 0 → (a % 2 ^ 16) % n ≡ a % n
wraps n a divides =
    let w : ℕ = 2 ^ 16 / n in
    let whole : w * n ≡ 2 ^ 16 = omega (arith, div-add-mod' (2 ^ 16) n, divides) in
    let times : a / 2 ^ 16 * 2 ^ 16 ≡ a / 2 ^ 16 * w * n = ap (λ x. a / 2 ^ 16 * x) (sym whole) ∙ mul_assoc (a / 2 ^ 16) w n in
    sym (mul-add-mod_self_right (a / 2 ^ 16 * w) n (a % 2 ^ 16))
    ∙ ap (λ x. (x + a % 2 ^ 16) % n) (sym times)
    ∙ ap (λ x. x % n) (div-add-mod' a (2 ^ 16))
  where
    mul_assoc : (a b c : ℕ) → a * (b * c) ≡ a * b * c
    mul_assoc a b c = grind arith

-- equal places stay equal further on
pub further : (n a b k : ℕ) → a % n ≡ b % n → (a + k) % n ≡ (b + k) % n
further n a b k same =
    let split : (x : ℕ) → x + k ≡ x / n * n + (x % n + k) = λ x. omega (arith, div-add-mod' x n) in
    ap (λ x. x % n) (split a) ∙ mul-add-mod_self_right (a / n) n (a % n + k)
    ∙ ap (λ x. (x + k) % n) same
    ∙ sym (mul-add-mod_self_right (b / n) n (b % n + k)) ∙ ap (λ x. x % n) (sym (split b))

pub wraps_further : (n a k : ℕ) → 2 ^ 16 % n ≡ 0 → (a % 2 ^ 16 + k) % n ≡ (a + k) % n
wraps_further n a k divides = further n (a % 2 ^ 16) a k (wraps n a divides)

-- the places of fewer than n indices in a row are different ones
pub apart : (n a b : ℕ) → a < b → b < a + n → a % n ≡ b % n → ⊥
apart n a b less near same = grind (arith, common_steps)

pub mod_small : (x n : ℕ) → x < n → x % n ≡ x
mod_small x n less = subst (λ (y : ℕ). y % n ≡ x) (omega arith) (mod-mul-add 0 n x less)
