use Rattle.std.proofs.Common.{Some, None, subst}
use Rattle.vs_ring_port.specs.DriverCalls.{DriverAllows, Reap}
use Rattle.vs_ring_shared.{specs.Sights.Sight, specs.Sights.driver_contents, proofs.Exposed.allows_back, proofs.Exposed.allows_none_back}
use Rattle.vs_ring_shared.proofs.ends.DriverEndDriverRing.reap.Goals as goal

pub returns-in_default-clause-contents : goal.returns-in_default-clause-contents
returns-in_default-clause-contents g c =
    subst (λ (s : Sight). DriverAllows (Reap c.args.queue) None (driver_contents s) (driver_contents c.reap_page.new.self)) c.self.view_is
    (allows_none_back c.args.queue c.self.inside.side c.reap_page.new.self c.in_default.ensures.none c.laws_of_driver_side.ensures.fair)

pub returns-clause-contents : goal.returns-clause-contents
returns-clause-contents g c =
    subst (λ (s : Sight). DriverAllows (Reap c.args.queue) (Some c.in-Some.page) (driver_contents s) (driver_contents c.reap_page.new.self))
    c.self.view_is (allows_back c.args.queue c.in-Some.page c.self.inside.side c.reap_page.new.self c.in-Some.ensures.back c.reap_page.ensures.fair)
