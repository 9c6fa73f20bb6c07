use Rattle.std.proofs.Common.{◌≡◌, ◌≤◌, ◌↔◌, ℕ, List, length, subst, sym}
use Rattle.vs_uds.{specs.{declared.scan.Step.{Step, TheVariants.Port}, OkLine.{IsOkLine, ok_step}}, proofs.OkLines.ok_step-IsOkLine}
use Rattle.vs_uds.proofs.ok.OkLine.feed.Goals as goal

pub returns-clause-port : goal.returns-clause-port
returns-clause-port c port =
    let held : List ℕ = c.feed.new.line.items in
    let step : c.ok_step.result ≡ ok_step held = rw c.as_slice.ensures.value at c.ok_step.ensures in
    let short : length held ≤ 14 = rw c.as_slice.ensures.value at c.as_slice.ensures.fits in
    let P : Step → Type 0 = λ s. (s ≡ Port port) ↔ IsOkLine held port in
    subst P (sym step) (ok_step-IsOkLine held short port)
