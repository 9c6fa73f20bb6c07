use Rattle.std.proofs.Common.{◌≡◌, None, ◌<◌, ◌^◌, ◌==◌, ◌&&◌, rules}
use Rattle.vs_limits.specs.declared.TheConstants.{HOST_CID}
use Rattle.vs_driver_parts.specs.{Connections.connect_refusal, Conversations.connect_with_page, Conversations.reap_all}
use Rattle.laws_driver.proofs.Calls.{both_hosts, connect_honest, connect_may, honest_weaker}
use Rattle.vs_driver.proofs.{Connecting.reaps, Rest.then}
use Rattle.vs_driver.proofs.driver.Driver.connect_to.Goals as goal

pub connect_with_page-requires-clause-may : goal.connect_with_page-requires-clause-may
connect_with_page-requires-clause-may g c =
    let peer : c.args.peer < 2 ^ 64 = search rules in
    let port : c.args.port < 2 ^ 32 = search rules in
    let none : connect_refusal c.args.peer c.args.port c.args.self.now ≡ None = search rules in
    (then (reap_all c.args.self.now) (connect_with_page c.args.peer c.args.port)
    (reaps c.args.peer c.args.port c.args.self.now (g.R.DriverRing.contents c.args.ring.now) none)
    c.reap_all.new.self _ c.reap_all.ensures.calls).may
    (connect_may c.requires.honest.0 c.requires.honest.1 c.args.peer c.args.port c.args.self.now (g.R.DriverRing.contents c.args.ring.now) peer port
    c.requires.honest.2)

pub returns-clause-calls : goal.returns-clause-calls
returns-clause-calls g c =
    let none : connect_refusal c.args.peer c.args.port c.args.self.now ≡ None = search rules in
    (then (reap_all c.args.self.now) (connect_with_page c.args.peer c.args.port)
    (reaps c.args.peer c.args.port c.args.self.now (g.R.DriverRing.contents c.args.ring.now) none)
    c.reap_all.new.self _ c.reap_all.ensures.calls).goes_on _ _ c.connect_with_page.ensures.calls

pub returns-clause-honest : goal.returns-clause-honest
returns-clause-honest g c = λ hosts first honest.
    let peer : c.args.peer < 2 ^ 64 = search rules in
    let port : c.args.port < 2 ^ 32 = search rules in
    connect_honest hosts first c.args.peer c.args.port c.args.self.now _ peer port honest _ (c.connect_with_page.new.self, c.connect_with_page.result)
    (returns-clause-calls g c)

pub returns-in-Some-clause-honest : goal.returns-in-Some-clause-honest
returns-in-Some-clause-honest g c = λ hosts first honest.
    honest_weaker hosts ((c.args.peer == HOST_CID) && hosts) (λ is. (both_hosts c.args.peer hosts is).1) first c.args.self.now
    (g.R.DriverRing.contents c.args.ring.now) honest
