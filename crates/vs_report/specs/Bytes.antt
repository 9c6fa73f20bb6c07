-- Bytes as they are printed.
use Rattle.std.specs.Prelude.{ℕ, ◌-◌, ◌==◌, nat_le, if◌then◌else◌, List, [], ◌∷◌, ◌++◌, length, take, drop, codes, decimal}
use Rattle.hex.specs.Hex.{encode_lower}
use Rattle.vs_excerpt.specs.declared.{Excerpt.Excerpt, TheConstants.{AT_EACH_END, MAX_IN_FULL}}

-- The bytes of some: all in lower case hex, two digits a byte, or of more than 64 the first 16, `..` and the last 16.
abbrev pub some_text : List ℕ → List ℕ
some_text bytes =
    if nat_le (length bytes) MAX_IN_FULL then encode_lower bytes
    else encode_lower (take AT_EACH_END bytes) ++ codes ".." ++ encode_lower (drop (length bytes - AT_EACH_END) bytes)

-- The same of any bytes: `-` where there are none.
abbrev pub data_text : List ℕ → List ℕ
data_text [] = codes "-"
data_text (byte ∷ bytes) = some_text (byte ∷ bytes)

-- How many bytes there are, and the bytes.
abbrev pub counted_text : List ℕ → List ℕ
counted_text bytes = decimal (length bytes) ++ codes " " ++ data_text bytes

-- The same by an excerpt of the bytes.
abbrev pub shown_text : Excerpt → List ℕ
shown_text e =
    if e.count == 0 then codes "-" else if nat_le e.count MAX_IN_FULL then encode_lower (take e.count e.front)
    else encode_lower (take AT_EACH_END e.front) ++ codes ".." ++ encode_lower e.back

abbrev pub excerpt_text : Excerpt → List ℕ
excerpt_text e = decimal e.count ++ codes " " ++ shown_text e
