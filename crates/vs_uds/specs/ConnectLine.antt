-- The line `CONNECT PORT` (Firecracker's vsock documentation).
use Rattle.std.specs.Prelude.{ℕ, ◌≡◌, ◌≤◌, ◌==◌, ◌&&◌, ◌||◌, Bool, if◌then◌else◌, List, [], ◌∷◌, ◌++◌, length, take, drop, map, replicate, slice_index, codes, decimal, Option}
use Rattle.std.specs.{Prelude.None, Char.to_ascii_lowercase, Str.bytes_eq}
use Rattle.vs_uds.specs.{Port.{WritesPort, port_in}, Reading.{answers_to, step_of}, Scan.{after_digits, leading_digits, without_leading_spaces}}
use Rattle.vs_uds.specs.declared.{connect.TheConstants.CONNECT_MAX, scan.{TheConstants.{CR, LF, SPACE}, Step.Step}}

-- A line with this word and this port: the word's letters in any case, one or more spaces, digits, any number of spaces,
-- at most one CR, LF.
pub record IsWordLine (word line : List ℕ) (port : ℕ) : Type 0 where
  pub letters : List ℕ
  pub before : ℕ
  pub digits : List ℕ
  pub after : ℕ
  pub returns : ℕ
  pub parts : line ≡ letters ++ replicate before SPACE ++ digits ++ replicate after SPACE ++ replicate returns CR ++ LF ∷ []
  pub spelled : map to_ascii_lowercase letters ≡ map to_ascii_lowercase word
  pub apart : 1 ≤ before
  pub number : WritesPort digits port
  pub one_return : returns ≤ 1
  pub short : length line ≤ CONNECT_MAX

-- The word of a CONNECT line.
abbrev pub connect_word : List ℕ
connect_word = codes "CONNECT"

-- A CONNECT line with this port.
abbrev pub IsConnectLine : List ℕ → ℕ → Type 0
IsConnectLine line port = IsWordLine connect_word line port

-- The line as it is written: one space, and the port in decimal without leading zeros.
abbrev pub connect_text : ℕ → List ℕ
connect_text port = connect_word ++ codes " " ++ decimal port ++ LF ∷ []

-- Whether bytes may end a line: at most one CR, and LF.
abbrev pub is_line_end : List ℕ → Bool
is_line_end end = bytes_eq end (LF ∷ []) || bytes_eq end (CR ∷ LF ∷ [])

-- Whether letters are a word, in any case.
abbrev pub is_word : List ℕ → List ℕ → Bool
is_word word letters = bytes_eq (map to_ascii_lowercase letters) (map to_ascii_lowercase word)

-- The port of a line with this word, as a function that computes. From the left: the word, spaces, the leading digits of the
-- rest, and after them nothing but spaces and what ends a line.
abbrev pub word_port : List ℕ → List ℕ → Option ℕ
word_port word line =
    let rest = drop (length word) line in
    let number = without_leading_spaces rest in
    if is_word word (take (length word) line) && slice_index rest 0 == SPACE && is_line_end (without_leading_spaces (after_digits number))
    then port_in (leading_digits number)
    else None

abbrev pub connect_port : List ℕ → Option ℕ
connect_port line = word_port connect_word line

-- What a `ConnectLine` answers that holds these bytes, and what a new one answers to bytes that are fed in turn.
abbrev pub connect_step : List ℕ → Step
connect_step line = step_of CONNECT_MAX connect_port line

abbrev pub connect_answers : List ℕ → List Step
connect_answers bytes = answers_to CONNECT_MAX connect_port [] bytes
