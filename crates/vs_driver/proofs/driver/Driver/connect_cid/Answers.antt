use Rattle.std.proofs.Common.{◌==◌, ◌&&◌}
use Rattle.vs_limits.specs.declared.TheConstants.{HOST_CID}
use Rattle.laws_driver.proofs.Calls.{both_hosts, honest_weaker}
use Rattle.vs_driver.proofs.driver.Driver.connect_cid.Goals as goal

pub returns-then-is_bad_cid-clause-honest : goal.returns-then-is_bad_cid-clause-honest
returns-then-is_bad_cid-clause-honest g c = λ hosts first honest.
    honest_weaker hosts ((c.args.cid == HOST_CID) && hosts) (λ is. (both_hosts c.args.cid hosts is).1) first c.args.self.now
    (g.R.DriverRing.contents c.args.ring.now) honest
