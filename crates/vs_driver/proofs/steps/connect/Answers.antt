use Rattle.std.proofs.Common.{◌≡◌, ◌<◌, ◌^◌, None, rules}
use Rattle.vs_driver_parts.specs.{Connections.connect_refusal, Steps.connects}
use Rattle.vs_limits.specs.declared.TheConstants.{HOST_CID}
use Rattle.laws_driver.proofs.{Keeping.keeps_end, Keeping.keeps_may, Stepping.connects_keeps}
use Rattle.vs_driver.proofs.Stepping.{connect_stepped, may_step_connect}
use Rattle.vs_driver.proofs.steps.connect.Goals as goal

pub connect_with_page-requires-clause-may : goal.connect_with_page-requires-clause-may
connect_with_page-requires-clause-may g c =
    let port : c.args.host_port < 2 ^ 32 = search rules in
    let none : connect_refusal HOST_CID c.args.host_port c.args.driver.now ≡ None = search rules in
    may_step_connect c.args.driver.now c.args.host_port none (g.R.DriverRing.contents c.args.ring.now)
    (keeps_may _ (connects c.args.host_port c.args.driver.now) (g.R.DriverRing.contents c.args.ring.now)
    (connects_keeps c.requires.honest.0 c.requires.honest.1 c.args.host_port c.args.driver.now (g.R.DriverRing.contents c.args.ring.now) port
    c.requires.honest.2))

pub returns-in-None-clause-calls : goal.returns-in-None-clause-calls
returns-in-None-clause-calls g c =
    let none : connect_refusal HOST_CID c.args.host_port c.args.driver.now ≡ None = search rules in
    connect_stepped c.args.driver.now c.args.host_port none _ _ (c.connect_with_page.new.self, c.connect_with_page.result)
    c.connect_with_page.ensures.calls

pub returns-in-None-clause-honest : goal.returns-in-None-clause-honest
returns-in-None-clause-honest g c = λ hosts first honest.
    let port : c.args.host_port < 2 ^ 32 = search rules in
    keeps_end _ (connects c.args.host_port c.args.driver.now) (g.R.DriverRing.contents c.args.ring.now) (g.R.DriverRing.contents c.connect_with_page.new.ring)
    (c.connect_with_page.new.self, c.connect_with_page.result) (connects_keeps hosts first c.args.host_port c.args.driver.now (g.R.DriverRing.contents c.args.ring.now) port honest)
    (returns-in-None-clause-calls g c)
