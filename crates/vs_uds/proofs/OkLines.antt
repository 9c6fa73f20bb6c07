-- An OK line is what `ok_port` reads, and it is answered at its last byte.
use Rattle.std.proofs.Common.{◌≡◌, ◌↔◌, ◌≤◌, ◌<◌, ◌^◌, ℕ, false, List, [], ◌∷◌, ◌++◌, length, take, drop, Some, refl, sym, ap, ◌∙◌, arith, codes, decimal, take-append-drop}
use Rattle.std.{proofs.{Common.length-append, lemmas.{Bool.and_parts, Fmt.length-decimal-le, Slice.Eq.bytes_eq-Decides}}, specs.Str.bytes_eq}
use Rattle.vs_uds.specs.{OkLine.{IsOkLine, ok_answers, ok_port, ok_step, ok_text}, Port.port_in, Reading.port_at_end, Scan.{after_digits, leading_digits}}
use Rattle.vs_uds.{specs.declared.scan.Step.TheVariants.Port, proofs.{Leading.{after_digits-append, chosen, leading_digits-append, has_lf-digits}, Ports.WritesPort-decimal}}
use Rattle.vs_uds.proofs.{Ports.{WritesPort-port_in, length-decimal_ten, port_in-WritesPort}, Readings.{answers_to-line, has_lf, port-step_of, step_of-port}}

-- the port of an OK line is read
pub ok_port-IsOkLine : (line : List ℕ) (port : ℕ) → IsOkLine line port → ok_port line ≡ Some port
ok_port-IsOkLine line port w =
    rw (w.parts, after_digits-append w.digits (10 ∷ []) w.number.each refl, leading_digits-append w.digits (10 ∷ []) w.number.each refl)
    (port_in-WritesPort w.digits port w.number)

-- a port is read of an OK line alone
pub IsOkLine-ok_port : (line : List ℕ) (port : ℕ) → length line ≤ 14 → ok_port line ≡ Some port → IsOkLine line port
IsOkLine-ok_port line port short h =
    let number : List ℕ = drop 3 line in
    let found = chosen _ (port_in (leading_digits number)) port h in
    let tests = and_parts (bytes_eq (take 3 line) (codes "OK ")) (bytes_eq (after_digits number) (10 ∷ [])) found.0 in
    let front : take 3 line ≡ codes "OK " = (bytes_eq-Decides (take 3 line) (codes "OK ")).0 tests.0 in
    let end : after_digits number ≡ 10 ∷ [] = (bytes_eq-Decides (after_digits number) (10 ∷ [])).0 tests.1 in
    let whole : take 3 line ++ (leading_digits number ++ after_digits number) ≡ line =
    ap (λ (rest : List ℕ). take 3 line ++ rest) (take-append-drop _ number) ∙ take-append-drop 3 line in
    record {
      digits = leading_digits number;
      parts = sym (rw (front, end) at whole);
      number = WritesPort-port_in (leading_digits number) port found.1;
      short = short;
    }

-- it is answered at its last byte
pub ok_answers-IsOkLine : (line : List ℕ) (port : ℕ) → IsOkLine line port → ok_answers line ≡ port_at_end line port
ok_answers-IsOkLine line port w =
    let none : has_lf (codes "OK " ++ w.digits) ≡ false = has_lf-digits w.digits w.number.each in
    answers_to-line 14 ok_port (codes "OK " ++ w.digits) line port w.parts none w.short (ok_port-IsOkLine line port w)

-- the answer is a port where the line has it, and only there
pub ok_step-IsOkLine : (line : List ℕ) → length line ≤ 14 → (port : ℕ) → (ok_step line ≡ Port port) ↔ IsOkLine line port
ok_step-IsOkLine line short port = (
  λ answer. IsOkLine-ok_port line port short (port-step_of 14 ok_port line port answer),
  λ w. step_of-port 14 ok_port (codes "OK " ++ w.digits) line port w.parts (ok_port-IsOkLine line port w),
)

-- a line has one port
pub same_port-ok : (line : List ℕ) (p q : ℕ) → IsOkLine line p → IsOkLine line q → p ≡ q
same_port-ok line p q a b =
    let one = ok_port-IsOkLine line p a in
    let other = ok_port-IsOkLine line q b in
    cc

-- the line as it is written
pub IsOkLine-ok_text : (port : ℕ) → port < 2 ^ 32 → IsOkLine (ok_text port) port
IsOkLine-ok_text port fits =
    record {
      digits = decimal port;
      parts = refl;
      number = WritesPort-decimal port fits;
      short = omega (arith, length-append (decimal port) (10 ∷ []), length-decimal-le 10 port (omega arith) (omega arith) (omega arith));
    }

-- and its length, where the port has ten digits
pub length-ok_text : (port : ℕ) → 10 ^ 9 ≤ port → port < 2 ^ 32 → length (ok_text port) ≡ 14
length-ok_text port large fits = omega (arith, length-append (decimal port) (10 ∷ []), length-decimal_ten port large fits)
