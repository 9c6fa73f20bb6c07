use Rattle.std.proofs.Common.{◌≡◌, rules}
use Rattle.vs_driver_parts.specs.{State.DriverState, Listening.listening}
use Rattle.vs_driver.{specs.contracts.driver.Driver.the_view, proofs.Kept.kept}
use Rattle.laws_driver.proofs.Changing.{listen_changes}
use Rattle.vs_driver.proofs.driver.Driver.listen.Goals as goal

pub returns-clause-honest : goal.returns-clause-honest
returns-clause-honest c = λ hosts first r honest.
    let t : DriverState = the_view (record c.self.inside { listeners = c.listen.new.self }) in
    let is : t ≡ listening c.args.port c.args.self.now = search rules in
    kept hosts first c.args.self.now t _ r (listen_changes c.args.port c.args.self.now) is honest
