-- A port of a CONNECT line has 32 bits.
use Rattle.std.proofs.Common.{◌≡◌, ℕ, ◌<◌, ◌^◌, ◌==◌, ◌&&◌, true, false, cond, Bool, List, length, take, drop, slice_index, Option, Some, None, ap}
use Rattle.vs_uds.specs.{ConnectLine.{connect_port, connect_step, connect_word, is_line_end, is_word}, Port.port_in, Reading.{is_decided, port_or_bad}, Scan.after_digits}
use Rattle.vs_uds.{specs.Scan.{leading_digits, without_leading_spaces}, proofs.{Leading.chosen, Ports.WritesPort-port_in}}
use Rattle.vs_uds.specs.declared.scan.Step.TheVariants as step

pub decided : (d : Bool) (o : Option ℕ) (port : ℕ) → cond d (port_or_bad o) step.More ≡ step.Port port → o ≡ Some port
decided true None port is = absurd cc
decided true (Some p) port is = let same : p ≡ port = cc in ap (λ (n : ℕ). Some n) same
decided false o port is = absurd cc

pub port_fits : (line : List ℕ) (port : ℕ) → connect_step line ≡ step.Port port → port < 2 ^ 32
port_fits line port is =
    let rest = drop (length connect_word) line in
    let number = without_leading_spaces rest in
    let test = is_word connect_word (take (length connect_word) line) && slice_index rest 0 == 32
    && is_line_end (without_leading_spaces (after_digits number)) in
    let found : connect_port line ≡ Some port = decided (is_decided 32 line) (connect_port line) port is in
    (WritesPort-port_in (leading_digits number) port (chosen test (port_in (leading_digits number)) port found).1).fits
