-- What a write leaves in a memory.
use Rattle.std.proofs.lemmas.Grind.{common_steps}
use Rattle.std.proofs.Common.{inl, inr, ◌≡◌, ◌⊎◌, ℕ, ◌+◌, ◌-◌, ◌≤◌, List, ◌++◌, length, take, drop, ap, ◌∙◌, arith, length-append, length-drop, length-take-le, append_assoc}
use Rattle.std.proofs.{lemmas.{List.{drop-take, take-take, take-append-le, drop-append-le}, Slice.drop-append-drop}}
use Rattle.vs_guest_mem.specs.Memory.{Memory, after_write, bytes_at, overwritten}

-- as many bytes as before
pub length_over : (old : List ℕ) (p : ℕ) (new : List ℕ) → p + length new ≤ length old → length (overwritten old p new) ≡ length old
length_over old p new fits = grind (arith, common_steps)

-- those that were written
pub over_here : (old : List ℕ) (p : ℕ) (new : List ℕ) → p + length new ≤ length old → take (length new) (drop p (overwritten old p
    new)) ≡ new
over_here old p new fits = grind (arith, common_steps)

-- those before
pub over_before : (old : List ℕ) (p : ℕ) (new : List ℕ) (q k : ℕ) → p ≤ length old → q + k ≤ p
    → take k (drop q (overwritten old p new)) ≡ take k (drop q old)
over_before old p new q k fits before =
    let rest = drop (p + length new) old in
    let front : length (take p old) ≡ p = length-take-le p old fits in
    let parts : p ≡ q + (p - q) = omega (arith, before) in
    let left : drop q (take p old) ≡ take (p - q) (drop q old) = ap (λ j. drop q (take j old)) parts ∙ drop-take q (p - q) old in
    let long : length (take (p - q) (drop q old)) ≡ p - q = length-take-le (p - q) (drop q old) (omega (arith, fits, length-drop q old)) in
    ap (λ xs. take k (drop q xs)) (append_assoc (take p old) new rest)
    ∙ ap (take k) (drop-append-le q (take p old) (new ++ rest) (omega (arith, front, before)))
    ∙ ap (λ xs. take k (xs ++ (new ++ rest))) left
    ∙ take-append-le k (take (p - q) (drop q old)) (new ++ rest) (omega (arith, long, before))
    ∙ take-take k (p - q) (drop q old) (omega (arith, before))

-- those behind
pub over_behind : (old : List ℕ) (p : ℕ) (new : List ℕ) (q k : ℕ) → p ≤ length old → p + length new ≤ q
    → take k (drop q (overwritten old p new)) ≡ take k (drop q old)
over_behind old p new q k fits behind =
    ap (take k) (drop-append-drop (p + length new) old (take p old ++ new) q behind
    (length-append (take p old) new ∙ ap (λ n. n + length new) (length-take-le p old fits)))

-- the same of a piece of memory
pub length_written : (m : Memory) (a : ℕ) (bytes : List ℕ) → m.base ≤ a → a + length bytes ≤ m.base + length m.bytes
    → length (after_write m a bytes).bytes ≡ length m.bytes
length_written m a bytes from to = length_over m.bytes (a - m.base) bytes (omega (arith, from, to))

pub written : (m : Memory) (a : ℕ) (bytes : List ℕ) → m.base ≤ a → a + length bytes ≤ m.base + length m.bytes
    → bytes_at (after_write m a bytes) a (length bytes) ≡ bytes
written m a bytes from to = over_here m.bytes (a - m.base) bytes (omega (arith, from, to))

pub kept : (m : Memory) (a : ℕ) (bytes : List ℕ) (b k : ℕ) → m.base ≤ a → a + length bytes ≤ m.base + length m.bytes → m.base ≤ b
    → (b + k ≤ a) ⊎ (a + length bytes ≤ b) → bytes_at (after_write m a bytes) b k ≡ bytes_at m b k
kept m a bytes b k from to above (inl before) =
    over_before m.bytes (a - m.base) bytes (b - m.base) k (omega (arith, from, to)) (omega (arith, from, above, before))
kept m a bytes b k from to above (inr behind) =
    over_behind m.bytes (a - m.base) bytes (b - m.base) k (omega (arith, from, to)) (omega (arith, from, above, behind))

-- pieces of two pieces that are apart
pub inner : (a la b lb a2 la2 b2 lb2 : ℕ) → (a + la ≤ b) ⊎ (b + lb ≤ a) → a ≤ a2 → a2 + la2 ≤ a + la → b ≤ b2 → b2 + lb2 ≤ b + lb
    → (a2 + la2 ≤ b2) ⊎ (b2 + lb2 ≤ a2)
inner a la b lb a2 la2 b2 lb2 h fa ta fb tb = grind (arith, common_steps)
