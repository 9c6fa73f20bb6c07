-- What is kept of bytes that come one after another.
use Rattle.std.specs.Prelude.{ℕ, List, ◌++◌, length, take, drop, replicate}
use Rattle.vs_excerpt.specs.declared.{Excerpt.Excerpt, TheConstants.{AT_EACH_END, MAX_IN_FULL}}

-- The first bytes, and zeros where there are fewer; the last ones, behind zeros where there are fewer.
abbrev pub front_of : List ℕ → List ℕ
front_of bytes = take MAX_IN_FULL (bytes ++ replicate MAX_IN_FULL 0)

abbrev pub back_of : List ℕ → List ℕ
back_of bytes = drop (length bytes) (replicate AT_EACH_END 0 ++ bytes)

abbrev pub excerpt_of : List ℕ → Excerpt
excerpt_of bytes = record { count = length bytes; front = front_of bytes; back = back_of bytes }
