use Rattle.std.proofs.Common.{refl, ap, ◌∙◌, subst}
use Rattle.vs_ring_port.specs.{Counts.one_more, DriverCalls.{DriverAllows, Stage}}
use Rattle.vs_ring_shared.{specs.Sights.{Sight, driver_contents, driver_log, flight_of}, proofs.Exposed.{allows_stage, flight_staged}}
use Rattle.vs_ring_shared.proofs.ends.DriverEndDriverRing.stage.Goals as goal

pub stage_page-requires : goal.stage_page-requires
stage_page-requires g c = record { packet = c.requires.packet refl (driver_log c.args.self.now) refl }

pub returns-clause-in_flight : goal.returns-clause-in_flight
returns-clause-in_flight g c =
    ap flight_of c.in_ok-stage_page.ensures.ok ∙ flight_staged c.args.queue c.args.page c.self.inside.side c.laws_of_driver_side.ensures.taken
    ∙ ap (λ (s : Sight). one_more c.args.queue (flight_of s)) c.self.view_is

pub returns-clause-contents : goal.returns-clause-contents
returns-clause-contents g c =
    subst (λ (s : Sight). DriverAllows (Stage c.args.queue c.args.page) tt (driver_contents s) (driver_contents c.stage_page.new.self)) c.self.view_is
    (allows_stage c.args.queue c.args.page c.self.inside.side c.stage_page.new.self c.in_ok-stage_page.ensures.ok c.laws_of_driver_side.ensures.fair)
