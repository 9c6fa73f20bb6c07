use Rattle.std.proofs.Common.{subst}
use Rattle.vs_ring_port.specs.{Contents.PublishCid, DeviceCalls.DeviceAllows}
use Rattle.vs_ring_shared.{specs.Sights.DeviceSight, specs.Sights.device_contents, proofs.Exposed.allows_reset}
use Rattle.vs_ring_shared.proofs.ends.DeviceEndDeviceRing.publish_cid.Goals as goal

pub returns-clause-contents : goal.returns-clause-contents
returns-clause-contents g c =
    subst (λ (s : DeviceSight). DeviceAllows (PublishCid c.args.cid) tt (device_contents s) (device_contents c.store_cid.new.self)) c.self.view_is
    (allows_reset c.args.cid c.self.inside.side c.store_cid.new.self c.store_cid.ensures c.laws_of_device_side.ensures.fair)
