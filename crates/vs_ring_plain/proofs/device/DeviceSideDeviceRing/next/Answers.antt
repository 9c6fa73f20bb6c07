use Rattle.vs_ring_plain.proofs.Calls.{takes_by}
use Rattle.vs_ring_plain.proofs.device.DeviceSideDeviceRing.next.Goals as goal

pub returns-clause-long_enough : goal.returns-clause-long_enough
returns-clause-long_enough c = (takes_by c.args.queue c.take.result c.args.self.now c.take.new.self c.take.ensures.exact).long_enough
