use Rattle.std.proofs.Common.{subst}
use Rattle.vs_ring_port.specs.DriverCalls.{DriverAllows, LoadCid}
use Rattle.vs_ring_shared.{specs.Sights.Sight, specs.Sights.driver_contents, proofs.Exposed.allows_load}
use Rattle.vs_ring_shared.proofs.ends.DriverEndDriverRing.cid.Goals as goal

pub returns-clause-contents : goal.returns-clause-contents
returns-clause-contents g c =
    subst (λ (s : Sight). DriverAllows LoadCid c.load_cid.result (driver_contents s) (driver_contents c.load_cid.new.self)) c.self.view_is
    (allows_load c.load_cid.result c.self.inside.side c.load_cid.new.self c.load_cid.ensures c.laws_of_driver_side.ensures.fair)
