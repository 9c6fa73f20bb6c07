use Rattle.std.proofs.Common.{◌≡◌, not, sym, ap, subst, ◌∙◌}
use Rattle.vs_driver_parts.{specs.{State.{DriverConnection, DriverEntry, DriverState, entry_known_as}, Listening.is_answered}, proofs.Known.{mapped, answered_known}}
use Rattle.vs_driver.specs.contracts.driver.Driver.{the_view}
use Rattle.vs_driver.proofs.driver.Driver.is_answered.Goals as goal

pub returns-in-Some : goal.returns-in-Some
returns-in-Some c =
    let s : DriverState = the_view c.self.inside in
    let m = mapped (λ (e : DriverEntry). e.value) (entry_known_as c.args.id s) c.in-Some.connection.now c.in-Some.ensures in
    let P : DriverState → Type 0 = λ x. not c.is_unanswered.result ≡ is_answered x c.args.id in
    subst P c.self.view_is (ap not c.is_unanswered.ensures
    ∙ (ap (λ (v : DriverConnection). not v.unanswered) (sym m.gives) ∙ sym (answered_known c.args.id s m.from m.some)))
