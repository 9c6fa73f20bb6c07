use Rattle.std.proofs.Common.{◌≡◌, ◌≤◌, ◌↔◌, ℕ, List, length, subst, sym}
use Rattle.vs_uds.{specs.{declared.scan.Step.{Step, TheVariants.Port}, ConnectLine.{IsConnectLine, connect_step}}, proofs.ConnectLines.connect_step-IsConnectLine}
use Rattle.vs_uds.proofs.connect.ConnectLine.feed.Goals as goal

pub returns-clause-port : goal.returns-clause-port
returns-clause-port c port =
    let held : List ℕ = c.feed.new.line.items in
    let step : c.connect_step.result ≡ connect_step held = rw c.as_slice.ensures.value at c.connect_step.ensures in
    let short : length held ≤ 32 = rw c.as_slice.ensures.value at c.as_slice.ensures.fits in
    let P : Step → Type 0 = λ s. (s ≡ Port port) ↔ IsConnectLine held port in
    subst P (sym step) (connect_step-IsConnectLine held short port)
