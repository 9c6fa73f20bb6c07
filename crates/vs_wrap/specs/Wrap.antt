-- Counters of 16 and 32 bits, which wrap: their sums and differences, and the plain numbers that they stand for.
use Rattle.std.specs.Prelude.{ℕ, ◌+◌, ◌-◌, ◌%◌, ◌^◌, min}

-- What a 16-bit counter shows after b more.
abbrev pub sum16 : ℕ → ℕ → ℕ
sum16 a b = (a + b) % 2 ^ 16

-- How far the 16-bit counter a has gone past the counter b.
abbrev pub difference16 : ℕ → ℕ → ℕ
difference16 a b = (a + 2 ^ 16 - b) % 2 ^ 16

-- What a 32-bit counter shows after b more.
abbrev pub sum32 : ℕ → ℕ → ℕ
sum32 a b = (a + b) % 2 ^ 32

-- How far the 32-bit counter a has gone past the counter b.
abbrev pub difference32 : ℕ → ℕ → ℕ
difference32 a b = (a + 2 ^ 32 - b) % 2 ^ 32

-- The least number from `near` on that a 16-bit counter shows as `word`.
abbrev pub unwrap16 : ℕ → ℕ → ℕ
unwrap16 near word = near + difference16 word (near % 2 ^ 16)

-- The least number from `near` on that a 32-bit counter shows as `word`.
abbrev pub unwrap32 : ℕ → ℕ → ℕ
unwrap32 near word = near + difference32 word (near % 2 ^ 32)

-- A count of 64 bits after one more. It stands still at its last number.
abbrev pub counted : ℕ → ℕ
counted n = min (n + 1) (2 ^ 64 - 1)
