use Rattle.std.proofs.Common.{subst}
use Rattle.vs_ring_port.specs.{Contents.Given, DeviceCalls.DeviceAllows}
use Rattle.vs_ring_shared.{specs.Sights.DeviceSight, specs.Sights.device_contents, proofs.Exposed.allows_count}
use Rattle.vs_ring_shared.proofs.ends.DeviceEndDeviceRing.given.Goals as goal

pub returns-clause-contents : goal.returns-clause-contents
returns-clause-contents g c =
    subst (λ (s : DeviceSight). DeviceAllows (Given c.args.queue) c.count_given.result (device_contents s) (device_contents c.count_given.new.self))
    c.self.view_is (allows_count c.args.queue c.count_given.result c.self.inside.side c.count_given.new.self c.count_given.ensures
    (c.laws_of_device_side.ensures.held c.args.queue) c.laws_of_device_side.ensures.fair)
