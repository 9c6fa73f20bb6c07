-- A number by which 2 ^ 16 can be divided is a power of two, and what is left of another divided by it is its low bits.
use Rattle.std.proofs.lemmas.Grind.{common_steps}
use Rattle.std.proofs.{Common.{◌≡◌, ℕ, zero, suc, ◌+◌, ◌-◌, ◌*◌, ◌/◌, ◌%◌, ◌^◌, ◌<◌, sym, ap, ◌∙◌, subst, arith}, lemmas.Nat.and_mask}
use lib.Bits.{bit_and}

abbrev IsPower : ℕ → Type 0
IsPower n = (j : ℕ) × (n ≡ 2 ^ j)

one_of : (n m : ℕ) → 1 ≡ n * m → n ≡ 1
one_of n m is = grind (arith, common_steps)

-- of two numbers whose product is even one is even
halves : (p a b r s : ℕ) → 2 * p ≡ (2 * a + r) * (2 * b + s) → r < 2 → s < 2 → (p ≡ a * (2 * b + s) → IsPower a)
    → (p ≡ (2 * a + r) * b → IsPower (2 * a + r)) → IsPower (2 * a + r)
halves p a b zero s is few few' left right =
    let half : p ≡ a * (2 * b + s) = grind (arith, is) in
    let it = left half in
    let next : 2 * 2 ^ it.0 ≡ 2 ^ suc it.0 = grind arith in
    let same : 2 * a + 0 ≡ 2 * a = omega arith in
    (suc it.0, same ∙ ap (λ z. 2 * z) it.1 ∙ next)
halves p a b (suc zero) zero is few few' left right = right (grind (arith, is))
halves p a b (suc zero) (suc zero) is few few' left right = absurd (grind (arith, is))
halves p a b (suc zero) (suc (suc s)) is few few' left right = absurd (omega (arith, few'))
halves p a b (suc (suc r)) s is few few' left right = absurd (omega (arith, few))

power : (k n m : ℕ) → 2 ^ k ≡ n * m → IsPower n
power zero n m is = (0, one_of n m is)
power (suc k) n m is =
    let a = n / 2 in
    let b = m / 2 in
    let n_is : 2 * a + n % 2 ≡ n = omega arith in
    let m_is : 2 * b + m % 2 ≡ m = omega arith in
    let double : 2 * 2 ^ k ≡ 2 ^ suc k = grind arith in
    let product : 2 * 2 ^ k ≡ (2 * a + n % 2) * (2 * b + m % 2) = double ∙ is ∙ sym (ap (λ z. z * (2 * b + m % 2)) n_is ∙ ap (λ z. n * z) m_is) in
    subst IsPower n_is
    (halves (2 ^ k) a b (n % 2) (m % 2) product (omega arith) (omega arith) (power k a (2 * b + m % 2)) (power k (2 * a + n % 2) b))

pub masked : (n x : ℕ) → 0 < n → 65536 % n ≡ 0 → bit_and x (n - 1) ≡ x % n
masked n x some divides =
    let whole : 2 ^ 16 ≡ n * (65536 / n) = grind (arith, divides, some) in
    let p = power 16 n (65536 / n) whole in
    ap (λ z. bit_and x (z - 1)) p.1 ∙ and_mask x p.0 ∙ ap (λ z. x % z) (sym p.1)
