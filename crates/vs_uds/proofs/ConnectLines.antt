-- A line with a word and a port is what `word_port` reads, and it is answered at its last byte.
use Rattle.std.proofs.Common.{◌≡◌, ◌↔◌, ◌≤◌, ◌<◌, ◌+◌, ◌^◌, ◌==◌, ◌&&◌, ℕ, zero, suc, true, false, List, [], ◌∷◌, ◌++◌, length, take, drop, map, replicate, slice_index, Some, refl}
use Rattle.std.proofs.{Common.{sym, ap, ◌∙◌, inl, inr, arith, codes, decimal, append_assoc, append-nil, take-append-drop, length-append}, lemmas.Bool.{and_parts, cases_Bool}}
use Rattle.std.proofs.lemmas.{Bool.{cases_lt, eqb-true, false_from_ne_true, le-ltb, lt-ltb}, Fmt.length-decimal-le, List.{drop_at, length-map, take_at}, Slice.Eq.bytes_eq-Decides}
use Rattle.std.specs.{Char.{is_ascii_digit, to_ascii_lowercase}, List.{list_all, prefix_len}, Str.bytes_eq}
use Rattle.vs_uds.specs.ConnectLine.{IsConnectLine, IsWordLine, connect_answers, connect_port, connect_step, connect_text, connect_word, is_line_end, is_word, word_port}
use Rattle.vs_uds.specs.{Port.port_in, Reading.port_at_end, Scan.{after_digits, leading_digits, without_leading_spaces}, declared.scan.Step.TheVariants.Port}
use Rattle.vs_uds.proofs.Leading.{after_digits-append, chosen, digit_no_space, leading_digits-append, has_lf-digits, spaces_and_rest, without_leading_spaces-append}
use Rattle.vs_uds.proofs.{Ports.{WritesPort-decimal, WritesPort-port_in, port_in-WritesPort}, Readings.{answers_to-line, has_lf, none_append, none_replicate, port-step_of}}
use Rattle.vs_uds.proofs.Readings.{step_of-port}

-- what stands after the digits begins with none
stops : (after returns : ℕ) → prefix_len is_ascii_digit (replicate after 32 ++ (replicate returns 13 ++ 10 ∷ [])) ≡ 0
stops zero zero = refl
stops zero (suc returns) = refl
stops (suc after) returns = refl

-- and is an end
ends : (after returns : ℕ) → returns ≤ 1
    → is_line_end (without_leading_spaces (replicate after 32 ++ (replicate returns 13 ++ 10 ∷ []))) ≡ true
ends after zero few = rw (without_leading_spaces-append after (10 ∷ [])) refl
ends after (suc zero) few = rw (without_leading_spaces-append after (13 ∷ 10 ∷ [])) refl
ends after (suc (suc returns)) few = absurd (omega arith)

-- an end is at most one CR, and LF
end_parts : (end : List ℕ) → is_line_end end ≡ true → (returns : ℕ) × (returns ≤ 1) × (end ≡ replicate returns 13 ++ 10 ∷ [])
end_parts end h = elim (cases_Bool (bytes_eq end (10 ∷ []))) [
  | inl plain ↦ (0, omega arith, (bytes_eq-Decides end (10 ∷ [])).0 plain)
  | inr other ↦ (1, omega arith, (bytes_eq-Decides end (13 ∷ 10 ∷ [])).0 (rw other at h))
]

-- a number begins with no space
number_first : (ds rest : List ℕ) → list_all is_ascii_digit ds ≡ true → 1 ≤ length ds → without_leading_spaces (ds ++ rest) ≡ ds ++ rest
number_first [] rest each some = absurd (omega arith)
number_first (d ∷ ds) rest each some = rw (digit_no_space d (and_parts (is_ascii_digit d) (list_all is_ascii_digit ds) each).0) refl

first_space : (n : ℕ) (text : List ℕ) → 1 ≤ n → (slice_index (replicate n 32 ++ text) 0 == 32) ≡ true
first_space zero text some = absurd (omega arith)
first_space (suc n) text some = refl

some_space : (text : List ℕ) → (slice_index text 0 == 32) ≡ true → 1 ≤ prefix_len (λ byte. byte == 32) text
some_space [] first = cc
some_space (b ∷ text) first = rw first (omega arith)

-- the port of a line is read
pub word_port-IsWordLine : (word line : List ℕ) (port : ℕ) → IsWordLine word line port → word_port word line ≡ Some port
word_port-IsWordLine word line port w =
    let end : List ℕ = replicate w.after 32 ++ (replicate w.returns 13 ++ 10 ∷ []) in
    let rest : List ℕ = replicate w.before 32 ++ (w.digits ++ end) in
    let whole : line ≡ w.letters ++ rest = w.parts ∙ simp append_assoc in
    let len : length w.letters ≡ length word =
    omega (arith, ap length w.spelled, length-map w.letters to_ascii_lowercase, length-map word to_ascii_lowercase) in
    let front : take (length word) line ≡ w.letters = ap (take (length word)) whole ∙ take_at w.letters rest (length word) len in
    let back : drop (length word) line ≡ rest = ap (drop (length word)) whole ∙ drop_at w.letters rest (length word) len in
    let spelled : is_word word w.letters ≡ true =
    (bytes_eq-Decides (map to_ascii_lowercase w.letters) (map to_ascii_lowercase word)).1 w.spelled in
    let number : without_leading_spaces rest ≡ w.digits ++ end =
    without_leading_spaces-append w.before (w.digits ++ end) ∙ number_first w.digits end w.number.each w.number.some in
    let stop = stops w.after w.returns in
    rw (
      front,
      back,
      spelled,
      first_space w.before (w.digits ++ end) w.apart,
      number,
      after_digits-append w.digits end w.number.each stop,
      ends w.after w.returns w.one_return,
      leading_digits-append w.digits end w.number.each stop,
    )
    (port_in-WritesPort w.digits port w.number)

-- parts of parts, side by side
joined : (line letters rest spaces number digits end after last returns lf : List ℕ) → letters ++ rest ≡ line → rest ≡ spaces ++ number
    → number ≡ digits ++ end → end ≡ after ++ last → last ≡ returns ++ lf → line ≡ letters ++ spaces ++ digits ++ after ++ returns ++ lf
joined line letters rest spaces number digits end after last returns lf whole r n e l = sym whole ∙ rw (r, n, e, l) (simp append_assoc)

-- a port is read of such a line alone
pub IsWordLine-word_port : (word line : List ℕ) (port : ℕ) → length line ≤ 32 → word_port word line ≡ Some port → IsWordLine word line port
IsWordLine-word_port word line port short h =
    let letters : List ℕ = take (length word) line in
    let rest : List ℕ = drop (length word) line in
    let number : List ℕ = without_leading_spaces rest in
    let end : List ℕ = after_digits number in
    let found = chosen _ (port_in (leading_digits number)) port h in
    let tests = and_parts (is_word word letters && slice_index rest 0 == 32) (is_line_end (without_leading_spaces end)) found.0 in
    let fronts = and_parts (is_word word letters) (slice_index rest 0 == 32) tests.0 in
    let last = end_parts (without_leading_spaces end) tests.1 in
    let before : rest ≡ replicate (prefix_len (λ byte. byte == 32) rest) 32 ++ number = spaces_and_rest rest in
    let after : end ≡ replicate (prefix_len (λ byte. byte == 32) end) 32 ++ without_leading_spaces end = spaces_and_rest end in
    let digits : number ≡ leading_digits number ++ end = sym (take-append-drop _ number) in
    let parts =
    joined line letters rest _ number _ end _ (without_leading_spaces end) _ (10 ∷ [])
    (take-append-drop (length word) line) before digits after last.2 in
    record {
      letters = letters;
      before = prefix_len (λ byte. byte == 32) rest;
      digits = leading_digits number;
      after = prefix_len (λ byte. byte == 32) end;
      returns = last.0;
      parts = parts;
      spelled = (bytes_eq-Decides (map to_ascii_lowercase letters) (map to_ascii_lowercase word)).0 fronts.0;
      apart = some_space rest fronts.1;
      number = WritesPort-port_in (leading_digits number) port found.1;
      one_return = last.1;
      short = short;
    }

not_lf : (b : ℕ) → 10 < b → (b == 10) ≡ false
not_lf b above = false_from_ne_true (b == 10) (λ same. omega (arith, eqb-true b 10 same))

-- only LF is an LF in lower case
lower_lf : (b : ℕ) → (to_ascii_lowercase b == 10) ≡ (b == 10)
lower_lf b = elim (cases_lt b 65) [
  | inl low ↦ rw (lt-ltb b 65 low) refl
  | inr high ↦
      elim (cases_lt b 91) [
        | inl upper ↦ rw (le-ltb b 65 high, lt-ltb b 91 upper, not_lf (b + 32) (omega arith), not_lf b (omega arith)) refl
        | inr other ↦ rw (le-ltb b 65 high, le-ltb b 91 other) refl
      ]
]

has_lf-lower : (text : List ℕ) → has_lf (map to_ascii_lowercase text) ≡ has_lf text
has_lf-lower [] = refl
has_lf-lower (b ∷ text) = rw (lower_lf b, has_lf-lower text) refl

-- such a line is answered at its last byte
pub connect_answers-IsConnectLine : (line : List ℕ) (port : ℕ) → IsConnectLine line port → connect_answers line ≡ port_at_end line port
connect_answers-IsConnectLine line port w =
    let letters : has_lf w.letters ≡ false = sym (has_lf-lower w.letters) ∙ ap has_lf w.spelled in
    let to_number : List ℕ = w.letters ++ replicate w.before 32 in
    let to_spaces : List ℕ = to_number ++ w.digits in
    let to_end : List ℕ = to_spaces ++ replicate w.after 32 in
    let none_before : has_lf to_number ≡ false = none_append w.letters (replicate w.before 32) letters (none_replicate w.before 32 refl) in
    let none_digits : has_lf to_spaces ≡ false = none_append to_number w.digits none_before (has_lf-digits w.digits w.number.each) in
    let none_after : has_lf to_end ≡ false = none_append to_spaces (replicate w.after 32) none_digits (none_replicate w.after 32 refl) in
    let none : has_lf (to_end ++ replicate w.returns 13) ≡ false =
    none_append to_end (replicate w.returns 13) none_after (none_replicate w.returns 13 refl) in
    answers_to-line 32 connect_port (to_end ++ replicate w.returns 13) line port w.parts none w.short
    (word_port-IsWordLine connect_word line port w)

-- the answer is a port where the line has it, and only there
pub connect_step-IsConnectLine : (line : List ℕ) → length line ≤ 32 → (port : ℕ) → (connect_step line ≡ Port port) ↔ IsConnectLine line port
connect_step-IsConnectLine line short port = (
  λ answer. IsWordLine-word_port connect_word line port short (port-step_of 32 connect_port line port answer),
  λ w. step_of-port 32 connect_port _ line port w.parts (word_port-IsWordLine connect_word line port w),
)

-- a line has one port
pub same_port-connect : (line : List ℕ) (p q : ℕ) → IsConnectLine line p → IsConnectLine line q → p ≡ q
same_port-connect line p q a b =
    let one = word_port-IsWordLine connect_word line p a in
    let other = word_port-IsWordLine connect_word line q b in
    cc

-- one space, and neither spaces nor CR after the digits
plain : (digits : List ℕ)
    → connect_word ++ codes " " ++ digits ++ 10 ∷ []
    ≡ connect_word ++ replicate 1 32 ++ digits ++ replicate 0 32 ++ replicate 0 13 ++ 10 ∷ []
plain digits = rw (append-nil digits, append-nil digits) refl

-- the line as it is written
pub IsConnectLine-connect_text : (port : ℕ) → port < 2 ^ 32 → IsConnectLine (connect_text port) port
IsConnectLine-connect_text port fits =
    record {
      letters = connect_word;
      before = 1;
      digits = decimal port;
      after = 0;
      returns = 0;
      parts = plain (decimal port);
      spelled = refl;
      apart = omega arith;
      number = WritesPort-decimal port fits;
      one_return = omega arith;
      short = omega (arith, length-append (decimal port) (10 ∷ []), length-decimal-le 10 port (omega arith) (omega arith) (omega arith));
    }
