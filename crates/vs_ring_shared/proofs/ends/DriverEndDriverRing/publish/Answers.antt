use Rattle.std.proofs.Common.{sym, subst}
use Rattle.vs_ring_port.specs.DriverCalls.{CanPublish, DriverAllows, Publish}
use Rattle.vs_ring_shared.{specs.Sights.Sight, specs.Sights.driver_contents, proofs.Exposed.allows_publish, proofs.Exposed.may_publish}
use Rattle.vs_ring_shared.proofs.ends.DriverEndDriverRing.publish.Goals as goal

pub publish_staged-requires : goal.publish_staged-requires
publish_staged-requires g c =
    let can = subst (λ (s : Sight). CanPublish c.args.queue (driver_contents s)) (sym c.self.view_is) c.requires.fair in
    record { fair = may_publish c.args.queue c.self.inside.side can c.laws_of_driver_side.ensures.fair }

pub returns-clause-contents : goal.returns-clause-contents
returns-clause-contents g c =
    let can = subst (λ (s : Sight). CanPublish c.args.queue (driver_contents s)) (sym c.self.view_is) c.requires.fair in
    subst (λ (s : Sight). DriverAllows (Publish c.args.queue) tt (driver_contents s) (driver_contents c.publish_staged.new.self)) c.self.view_is
    (allows_publish c.args.queue c.self.inside.side c.publish_staged.new.self c.publish_staged.ensures can c.laws_of_driver_side.ensures.fair)
