use Rattle.std.proofs.Common.{◌≡◌, rules}
use Rattle.vs_driver_parts.specs.{State.DriverState, Listening.after_accept}
use Rattle.vs_driver.{specs.contracts.driver.Driver.the_view, proofs.Kept.kept}
use Rattle.laws_driver.proofs.Changing.{accept_changes}
use Rattle.vs_driver.proofs.driver.Driver.accept.Goals as goal

pub returns-in-Some-clause-honest : goal.returns-in-Some-clause-honest
returns-in-Some-clause-honest c = λ hosts first r honest.
    let t : DriverState = the_view (record c.self.inside { listeners = c.leave.new.self }) in
    let is : t ≡ after_accept c.args.port c.args.self.now = search rules in
    kept hosts first c.args.self.now t _ r (accept_changes c.args.port c.args.self.now) is honest
