-- The parts of a text, from the left.
use Rattle.std.specs.{Prelude.ℕ, Prelude.◌==◌, Prelude.List, Prelude.take, Prelude.drop, List.prefix_len, Char.is_ascii_digit}
use Rattle.vs_uds.specs.declared.scan.TheConstants.{SPACE}

-- A text without the spaces that it begins with.
abbrev pub without_leading_spaces : List ℕ → List ℕ
without_leading_spaces text = drop (prefix_len (λ byte. byte == SPACE) text) text

-- The digits that a text begins with, and the text after them.
abbrev pub leading_digits : List ℕ → List ℕ
leading_digits text = take (prefix_len is_ascii_digit text) text

abbrev pub after_digits : List ℕ → List ℕ
after_digits text = drop (prefix_len is_ascii_digit text) text
