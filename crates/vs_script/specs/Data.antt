-- The bytes that a line of a script carries.
use Rattle.std.specs.{Prelude.{ℕ, ◌+◌, ◌*◌, ◌/◌, ◌%◌, List, length, map}, List.range_with_len}
use Rattle.vs_script.specs.declared.data.Data.{Data}
use Rattle.vs_script.specs.declared.data.Data.TheVariants as code

-- Bytes as a script gives them, or n bytes by a rule, beginning with `start`.
pub data Content : Type 0 where
  Given : (bytes : List ℕ) → Content
  Fill : (n : ℕ) → (start : ℕ) → Content

-- The same, as the program holds it.
abbrev pub content_of : Data → Content
content_of (code.Given bytes) = Given bytes.items
content_of (code.Fill fill) = Fill fill.n fill.start

-- How many bytes they are.
abbrev pub size_of : Content → ℕ
size_of (Given bytes) = length bytes
size_of (Fill n start) = n

-- The byte at place i of bytes that are filled from `start` on.
abbrev pub filled : ℕ → ℕ → ℕ
filled start i = (start + 7 * i + i / 251) % 256

-- All of them.
abbrev pub filled_bytes : ℕ → ℕ → List ℕ
filled_bytes n start = map (λ i. filled start i) (range_with_len 0 n)

abbrev pub bytes_of : Content → List ℕ
bytes_of (Given bytes) = bytes
bytes_of (Fill n start) = filled_bytes n start
