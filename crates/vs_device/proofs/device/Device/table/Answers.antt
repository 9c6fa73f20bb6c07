use Rattle.std.proofs.Common.{sym, subst}
use Rattle.vs_device_parts.specs.{State.DeviceState, Turns.table_shown}
use Rattle.laws_device.{specs.Honest.AgreesWith, specs.Honest.IsLeftOpen, proofs.Shown.left_open}
use Rattle.vs_device.specs.contracts.device.Device.{the_view}
use Rattle.vs_device.proofs.device.Device.table.Goals as goal

pub returns-clause-open : goal.returns-clause-open
returns-clause-open c = λ first port l agrees.
    let s : DeviceState = the_view c.self.inside in
    let seen : AgreesWith first port s l = subst (λ (x : DeviceState). AgreesWith first port x l) (sym c.self.view_is) agrees in
    subst (λ (x : DeviceState). IsLeftOpen first x (table_shown s) l) c.self.view_is (left_open first port s l seen)
