-- Digits that write a port, and the port that a text writes.
use Rattle.std.proofs.Common.{◌≡◌, ◌≤◌, ◌<◌, ◌^◌, ◌&&◌, ℕ, true, nat_le, nat_lt, List, length, Some, None, Result, Ok, Err, refl, subst, inl, inr, arith, rules, decimal, le-leb}
use Rattle.std.proofs.{Common.{leb-true, ltb-true}, lemmas.{Bool.{and_parts, cases_lt, le-ltb, lt-ltb}, Option.cond_some, Fmt.{IsAscii-from_digits, decimal_nonempty}}}
use Rattle.std.proofs.lemmas.{Fmt.{digits_decimal, digits_value-decimal, length-decimal-le}, Str.{IsUtf8-from_ascii, Parse.{IsNumeralModel, digits_value_short, numerals_by_value}}}
use Rattle.std.{proofs.lemmas.Str.Parse.parse_digits, specs.{Prelude.MatchResult, Result.result_ok, Str.{IsUtf8, Parse.{ParsesUnsigned, digits_value}}, Char.is_ascii_digit}}
use Rattle.std.specs.List.{list_all}
use Rattle.vs_uds.specs.Port.{WritesPort, is_numeral, port_in}

-- the test of each byte, and the value of digits
pub own : IsNumeralModel (λ ds. list_all is_ascii_digit ds ≡ true) (digits_value 10)
own = numerals_by_value _ (search rules)

-- what the test of a numeral says
pub numeral_parts : (text : List ℕ) → is_numeral text ≡ true
    → (1 ≤ length text) × (length text ≤ 10) × (list_all is_ascii_digit text ≡ true)
numeral_parts text h =
    let outer = and_parts (nat_le 1 (length text) && nat_le (length text) 10) (list_all is_ascii_digit text) h in
    let inner = and_parts (nat_le 1 (length text)) (nat_le (length text) 10) outer.0 in
    (leb-true 1 (length text) inner.0, leb-true (length text) 10 inner.1, outer.1)

-- digits that write a port are read as it
pub port_in-WritesPort : (ds : List ℕ) (port : ℕ) → WritesPort ds port → port_in ds ≡ Some port
port_in-WritesPort ds port w =
    let fits : digits_value 10 ds < 2 ^ 32 = rw w.value w.fits in
    rw (le-leb 1 (length ds) w.some, le-leb (length ds) 10 w.few, w.each, lt-ltb (digits_value 10 ds) (2 ^ 32) fits, w.value) refl

-- and nothing else is
pub WritesPort-port_in : (ds : List ℕ) (port : ℕ) → port_in ds ≡ Some port → WritesPort ds port
WritesPort-port_in ds port h =
    let found = cond_some (is_numeral ds && nat_lt (digits_value 10 ds) (2 ^ 32)) (digits_value 10 ds) port h in
    let tests = and_parts (is_numeral ds) (nat_lt (digits_value 10 ds) (2 ^ 32)) found.0 in
    let parts = numeral_parts ds tests.0 in
    let fits = ltb-true (digits_value 10 ds) (2 ^ 32) tests.1 in
    record {
      each = parts.2;
      some = parts.0;
      few = parts.1;
      value = found.1;
      fits = rw (found.1) at fits;
    }

-- a port in decimal
pub WritesPort-decimal : (port : ℕ) → port < 2 ^ 32 → WritesPort (decimal port) port
WritesPort-decimal port fits =
    record {
      each = digits_decimal own port (omega arith);
      some = decimal_nonempty port (omega arith);
      few = length-decimal-le 10 port (omega arith) (omega arith) (omega arith);
      value = digits_value-decimal own port (omega arith);
      fits = fits;
    }

-- a port of ten digits
pub length-decimal_ten : (port : ℕ) → 10 ^ 9 ≤ port → port < 2 ^ 32 → length (decimal port) ≡ 10
length-decimal_ten port large fits =
    let value = digits_value-decimal own port (omega arith) in
    elim (cases_lt (length (decimal port)) 10) [
      | inl short ↦
          let small = digits_value_short own (decimal port) 9 (digits_decimal own port (omega arith)) (omega arith) in
          absurd (omega arith)
      | inr long ↦ omega (arith, length-decimal-le 10 port (omega arith) (omega arith) (omega arith))
    ]

-- a numeral is a text
pub IsUtf8-numeral : (text : List ℕ) → is_numeral text ≡ true → IsUtf8 text
IsUtf8-numeral text h = IsUtf8-from_ascii text (IsAscii-from_digits text (own.to text (numeral_parts text h).2))

-- what `parse` makes of a numeral
pub result_ok-parse : {E : Type 0} (text : List ℕ) (r : Result ℕ E) → is_numeral text ≡ true → ParsesUnsigned 32 10 text r
    → result_ok r ≡ port_in text
result_ok-parse {E = E} text (Ok x) numeral read =
    let parts = numeral_parts text numeral in
    let found = parse_digits own {E = E} 32 text (Ok x) read parts.2 in
    rw (numeral, lt-ltb (digits_value 10 text) (2 ^ 32) found.0.1, found.1) refl
result_ok-parse {E = E} text (Err e) numeral read =
    let parts = numeral_parts text numeral in
    let reads = parse_digits own {E = E} 32 text (Err e) read parts.2 in
    elim (cases_lt (digits_value 10 text) (2 ^ 32)) [
      | inl below ↦ absurd (reads (parts.0, below))
      | inr above ↦ rw (numeral, le-ltb (digits_value 10 text) (2 ^ 32) above) refl
    ]

-- a text is read as one
pub no_err-text : {T E : Type 0} (r : Result T E) (P : T → Type 0) (Q : E → Type 0) (U : Type 0)
    → MatchResult r P (λ e. ¬ U × Q e) → U → result_ok r ≡ None → ⊥
no_err-text (Ok x) P Q U h text e = cc
no_err-text (Err x) P Q U h text e = h.0 text

-- and that text is what was read
pub text_from-some : {T E : Type 0} (r : Result T E) (P : T → Type 0) (Q : E → Type 0) (x : T)
    → MatchResult r P Q → result_ok r ≡ Some x → P x
text_from-some (Ok y) P Q x h e = let same : y ≡ x = cc in subst P same h
text_from-some (Err y) P Q x h e = cc
