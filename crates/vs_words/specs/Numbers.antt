-- Numbers of the command line.
use Rattle.std.specs.{Prelude.{ℕ, ◌==◌, ◌&&◌, nat_le, if◌then◌else◌, Bool, false, not, List, [], ◌∷◌, length, Option, Some, None}, Str.{all_ascii_digits, Parse.digits_value}}

-- Whether a word is decimal digits.
abbrev pub is_digits : List ℕ → Bool
is_digits word = nat_le 1 (length word) && all_ascii_digits word

-- Whether a word begins with 0 (48) and goes on.
abbrev pub has_leading_zero : List ℕ → Bool
has_leading_zero [] = false
has_leading_zero (digit ∷ []) = false
has_leading_zero (digit ∷ next ∷ digits) = digit == 48

-- A number from low to high, and none outside.
abbrev pub within : ℕ → ℕ → ℕ → Option ℕ
within low high n = if nat_le low n && nat_le n high then Some n else None

-- The number of a word of digits without a leading zero, where it is from low to high.
abbrev pub number_in : ℕ → ℕ → List ℕ → Option ℕ
number_in low high word = if is_digits word && not (has_leading_zero word) then within low high (digits_value 10 word) else None
