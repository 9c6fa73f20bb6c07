use Rattle.std.proofs.Common.{subst}
use Rattle.vs_proxy_parts.specs.State.{ProxyState}
use Rattle.laws_device.specs.Honest.{AgreesWith, IsLeftOpen}
use Rattle.vs_proxy.proofs.proxy.Proxy.table.Goals as goal

pub returns-clause-open : goal.returns-clause-open
returns-clause-open c = λ first port l.
    let P : ProxyState → Type 0 = λ x. AgreesWith first port x.device l → IsLeftOpen first x.device c.table.result l in
    subst P c.self.view_is (c.table.ensures.open first port l)
