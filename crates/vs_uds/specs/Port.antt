-- How digits write a port in the lines.
use Rattle.std.specs.Prelude.{ℕ, ◌≡◌, ◌≤◌, ◌<◌, ◌^◌, ◌&&◌, Bool, true, nat_le, nat_lt, if◌then◌else◌, List, length, Option, Some, None}
use Rattle.std.specs.{List.list_all, Char.is_ascii_digit, Str.Parse.digits_value}
use Rattle.vs_uds.specs.declared.scan.TheConstants.{DIGITS_MAX}

-- Digits that write a port: one to ten of them, with a value below 2^32. Leading zeros are allowed.
pub record WritesPort (digits : List ℕ) (port : ℕ) : Type 0 where
  pub each : list_all is_ascii_digit digits ≡ true
  pub some : 1 ≤ length digits
  pub few : length digits ≤ DIGITS_MAX
  pub value : digits_value 10 digits ≡ port
  pub fits : port < 2 ^ 32

-- Whether a text is one to ten digits.
abbrev pub is_numeral : List ℕ → Bool
is_numeral text = nat_le 1 (length text) && nat_le (length text) DIGITS_MAX && list_all is_ascii_digit text

-- The port that a text writes.
abbrev pub port_in : List ℕ → Option ℕ
port_in text = if is_numeral text && nat_lt (digits_value 10 text) (2 ^ 32) then Some (digits_value 10 text) else None
