-- The line `OK PORT` (Firecracker's vsock documentation).
use Rattle.std.specs.{Prelude.{ℕ, ◌≡◌, ◌≤◌, ◌&&◌, if◌then◌else◌, List, [], ◌∷◌, ◌++◌, length, take, drop, codes, decimal, Option, None}, Str.bytes_eq}
use Rattle.vs_uds.specs.{Port.{WritesPort, port_in}, Reading.{answers_to, step_of}, Scan.{after_digits, leading_digits}, declared.{ok.TheConstants.OK_MAX, scan.TheConstants.LF}}
use Rattle.vs_uds.specs.declared.scan.Step.{Step}

-- An OK line with this port: `OK `, digits, LF.
pub record IsOkLine (line : List ℕ) (port : ℕ) : Type 0 where
  pub digits : List ℕ
  pub parts : line ≡ codes "OK " ++ digits ++ LF ∷ []
  pub number : WritesPort digits port
  pub short : length line ≤ OK_MAX

-- The line as it is written: the port in decimal without leading zeros.
abbrev pub ok_text : ℕ → List ℕ
ok_text port = codes "OK " ++ decimal port ++ LF ∷ []

-- The port of a line, as a function that computes. From the left: `OK `, the leading digits of the rest, and after them LF
-- alone.
abbrev pub ok_port : List ℕ → Option ℕ
ok_port line =
    let number = drop 3 line in
    if bytes_eq (take 3 line) (codes "OK ") && bytes_eq (after_digits number) (LF ∷ []) then port_in (leading_digits number) else None

-- What an `OkLine` answers that holds these bytes, and what a new one answers to bytes that are fed in turn.
abbrev pub ok_step : List ℕ → Step
ok_step line = step_of OK_MAX ok_port line

abbrev pub ok_answers : List ℕ → List Step
ok_answers bytes = answers_to OK_MAX ok_port [] bytes
