-- The fields of a line, each read from the words that are left of it.
use Rattle.std.specs.Prelude.{◌≡◌, ℕ, ◌+◌, ◌*◌, ◌&&◌, nat_le, if◌then◌else◌, Bool, List, [], ◌∷◌, length, codes, bytes_eq, Option, Some, None, option_map, Result, Ok, Err}
use Rattle.std.specs.{List.list_all, Str.{all_ascii_digits, Parse.digits_value}}
use Rattle.hex.specs.Hex.{hex_digit_value}
use Rattle.vs_script.specs.{Text.{is_empty, is_graphic}, Data.{Content, Given, Fill}, declared.fault.{Why.{Why, TheVariants.{BadWord, BadNumber, BadHex}}, LineFault.LineFault}}
use Rattle.vs_script.specs.declared.{fault.LineFault.TheVariants.{Refused, OutOfMemory}, number.TheConstants.MAX_DIGITS, words.TheConstants.MAX_BITS, hex_word.TheConstants.MAX_HEX}

-- What reading a field of the words left of a line gives: its value and the words behind it, or the line's fault.
abbrev pub Read : Type 0 → Type 0
Read X = Result (X × List (List ℕ)) Why

-- A field: how its value is read.
abbrev pub Field : Type 0 → Type 0
Field X = List (List ℕ) → Read X

-- What follows on a field, where that has no fault.
abbrev pub after : {X Y : Type 0} → Read X → (X → List (List ℕ) → Result Y Why) → Result Y Why
after (Ok found) f = f found.0 found.1
after (Err why) f = Err why

-- A value that a word has, or its fault where it has none.
abbrev pub held : {X : Type 0} → Why → Option X → List (List ℕ) → Read X
held why (Some x) rest = Ok (x, rest)
held why None rest = Err why

-- A line whose fields are read: there is no word more.
abbrev pub ending : {X : Type 0} → X → List (List ℕ) → Result X Why
ending x words = if is_empty words then Ok x else Err BadWord

-- A word, of printable bytes.
abbrev pub word : Field (List ℕ)
word [] = Err BadWord
word (w ∷ words) = if list_all is_graphic w then Ok (w, words) else Err BadWord

-- A word that is this one.
abbrev pub keyword : List ℕ → Field (Unit {0})
keyword name words = after (word words) (λ w rest. if bytes_eq w name then Ok (tt, rest) else Err BadWord)

-- Whether a word is a number: 1 to 20 decimal digits.
abbrev pub is_numeral : List ℕ → Bool
is_numeral w = nat_le 1 (length w) && nat_le (length w) MAX_DIGITS && all_ascii_digits w

-- A number from low to high, and none outside.
abbrev pub within : ℕ → ℕ → ℕ → Option ℕ
within low high n = if nat_le low n && nat_le n high then Some n else None

-- The number of a word, where it is from low to high.
abbrev pub number_in : ℕ → ℕ → List ℕ → Option ℕ
number_in low high w = if is_numeral w then within low high (digits_value 10 w) else None

-- A number from low to high.
abbrev pub number : ℕ → ℕ → Field ℕ
number low high words = after (word words) (λ w rest. held BadNumber (number_in low high w) rest)

-- A number that passes a test.
abbrev pub tested : {X : Type 0} → (X → Bool) → Read X → Read X
tested test (Ok found) = if test found.0 then Ok found else Err BadNumber
tested test (Err why) = Err why

-- A number of 16, 32 and 64 bits.
abbrev pub number16 : Field ℕ
number16 words = number 0 65535 words

abbrev pub number32 : Field ℕ
number32 words = number 0 4294967295 words

abbrev pub number64 : Field ℕ
number64 words = number 0 18446744073709551615 words

-- PORT, of 32 bits.
abbrev pub port : Field ℕ
port words = number32 words

-- C or H: connections and streams are numbered from 1 on, in 32 bits.
abbrev pub id : Field ℕ
id words = number 1 4294967295 words

-- B, one bit of a shutdown or both: 1 to 3.
abbrev pub bits : Field ℕ
bits words = number 1 MAX_BITS words

-- What a function makes of two values, where both are there.
abbrev pub of_both : {A B C : Type 0} → (A → B → C) → Option A → Option B → Option C
of_both f (Some a) (Some b) = Some (f a b)
of_both f (Some a) None = None
of_both f None b = None

-- The bytes that hex digits write, two digits a byte, the high four bits first.
abbrev pub bytes_of_digits : List ℕ → Option (List ℕ)
bytes_of_digits [] = Some []
bytes_of_digits (digit ∷ []) = None
bytes_of_digits (high ∷ low ∷ digits) =
    of_both ◌∷◌ (of_both (λ h l. h * 16 + l) (hex_digit_value high) (hex_digit_value low)) (bytes_of_digits digits)

-- The bytes of a word of 2 to 4,096 hex digits.
abbrev pub hex_of : List ℕ → Option (List ℕ)
hex_of w = if nat_le 2 (length w) && nat_le (length w) MAX_HEX then bytes_of_digits w else None

-- `fill N S` behind its first word: N from 0 to a limit, S from 0 to 255.
abbrev pub fill : ℕ → Field Content
fill limit words = after (number 0 limit words) (λ n rest. after (number 0 255 rest) (λ start behind. Ok (Fill n start, behind)))

-- DATA: `-`, `fill N S`, or hex digits.
abbrev pub content : ℕ → Field Content
content limit words =
    after (word words) (λ w rest.
    if bytes_eq w (codes "-") then Ok (Given [], rest)
    else if bytes_eq w (codes "fill") then fill limit rest
    else held BadHex (option_map Given (hex_of w)) rest)

-- The one field of a line.
abbrev pub only : {X : Type 0} → Field X → List (List ℕ) → Result X Why
only field words = after (field words) ending

-- What a line says, by what its fields say.
abbrev pub named : {X Y : Type 0} → (X → Y) → Result X Why → Result Y Why
named f (Ok x) = Ok (f x)
named f (Err why) = Err why

-- A line is refused for this fault. Want of memory says nothing of the line.
abbrev pub IsFault : {X : Type 0} → Result X Why → LineFault → Type 0
IsFault read (Refused why) = read ≡ Err why
IsFault read OutOfMemory = Unit {0}
