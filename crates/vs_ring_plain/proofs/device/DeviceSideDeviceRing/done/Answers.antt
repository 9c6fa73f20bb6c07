use Rattle.vs_ring_port.specs.Contents.{Return}
use Rattle.vs_ring_plain.proofs.Calls.{allowed}
use Rattle.vs_ring_plain.proofs.device.DeviceSideDeviceRing.done.Goals as goal

pub returns-clause-contents : goal.returns-clause-contents
returns-clause-contents c = allowed (Return c.args.chain c.args.len) tt c.args.self.now c.give_back.new.self c.give_back.ensures.exact
